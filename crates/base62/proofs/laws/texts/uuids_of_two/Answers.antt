use Rattle.std.proofs.Common.{rules}
use Rattle.base62.proofs.UuidLemmas.{same_uuid}
use Rattle.base62.proofs.laws.texts.uuids_of_two.Goals as goal

pub returns : goal.returns
returns c = λ same. same_uuid c.args.a c.args.b (record { size = search rules; bytes = λ i. search rules }) (record { size = search rules; bytes = λ i. search rules }) same
