use Rattle.std.proofs.Common.{◌≤◌, codes, refl, arith}
use Rattle.base62.specs.Alphabet.{standard}
use Rattle.base62.proofs.LiteralLemmas.{denotes_by, leading_1337}
use Rattle.base62.proofs.OnLiterals.{base62_on_literals}
use Rattle.base62.proofs.model.texts.no_canonical_texts_by_example.Goals as goal

pub returns-clause-leading_zero : goal.returns-clause-leading_zero
returns-clause-leading_zero c = leading_1337

pub returns-clause-zeros_alone : goal.returns-clause-zeros_alone
unfolding base62_on_literals
returns-clause-zeros_alone c = λ h. let less : 2 ≤ 1 = h.shortest (codes "0") (denotes_by standard (codes "0") 0 (omega arith) refl refl) in omega (arith, less)
