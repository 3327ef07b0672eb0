use Rattle.std.proofs.Common.{refl, lit≤}
use Rattle.base62.proofs.LiteralLemmas.{encodes_1337, refuses_1337}
use Rattle.base62.proofs.OnLiterals.{base62_on_literals}
use Rattle.base62.proofs.model.encodings.counted_by_example.Goals as goal

pub returns-clause-moved : goal.returns-clause-moved
unfolding base62_on_literals
returns-clause-moved c = record { answer = encodes_1337; steps = refl; most = lit≤ tt }

pub returns-clause-refused : goal.returns-clause-refused
returns-clause-refused c = record { answer = refuses_1337; steps = refl; most = lit≤ tt }
