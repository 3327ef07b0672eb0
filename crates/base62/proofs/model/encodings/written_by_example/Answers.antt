use Rattle.std.proofs.Common.{codes, drop, refl, ap}
use Rattle.base62.proofs.LiteralLemmas.{canonical_1337, leading_1337}
use Rattle.base62.proofs.OnLiterals.{base62_on_literals}
use Rattle.base62.proofs.model.encodings.written_by_example.Goals as goal

pub returns-clause-text : goal.returns-clause-text
unfolding base62_on_literals
returns-clause-text c = (codes "LZ", canonical_1337, refl, refl)

pub returns-clause-untold : goal.returns-clause-untold
unfolding base62_on_literals
returns-clause-untold c = (codes "LZ", canonical_1337, tt, refl)

pub returns-clause-leading_zero : goal.returns-clause-leading_zero
returns-clause-leading_zero c = λ h. leading_1337 (rw (ap (drop 2) h.2) h.1)
