use Rattle.std.proofs.Common.{refl}
use Rattle.base62.proofs.LiteralLemmas.{canonical_1337}
use Rattle.base62.proofs.OnLiterals.{base62_on_literals}
use Rattle.base62.proofs.model.encodings.strings_by_example.Goals as goal

pub returns-clause-text : goal.returns-clause-text
unfolding base62_on_literals
returns-clause-text c = λ text is. record { text = rw is canonical_1337; back = rw is refl }
