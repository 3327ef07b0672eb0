use Rattle.std.proofs.Common.{codes, refl, lit≤, arith}
use Rattle.base62.specs.Alphabet.{standard}
use Rattle.base62.proofs.AlphabetLemmas.{standard_is_alphabet}
use Rattle.base62.proofs.LiteralLemmas.{fixed_by}
use Rattle.base62.proofs.OnLiterals.{base62_on_literals}
use Rattle.base62.proofs.WidthLemmas.{fills}
use Rattle.base62.proofs.model.prefixes.filled_by_example.Goals as goal

pub returns-clause-zeros_in_front : goal.returns-clause-zeros_in_front
unfolding base62_on_literals
returns-clause-zeros_in_front c = fills standard standard_is_alphabet 1337 (lit≤ tt) (codes ".....") (codes "000LZ") (fixed_by standard 5 (codes "000LZ") 1337 refl (omega arith) refl refl)

pub returns-clause-just_fits : goal.returns-clause-just_fits
unfolding base62_on_literals
returns-clause-just_fits c = fills standard standard_is_alphabet 1337 (lit≤ tt) (codes "..") (codes "LZ") (fixed_by standard 2 (codes "LZ") 1337 refl (omega arith) refl refl)
