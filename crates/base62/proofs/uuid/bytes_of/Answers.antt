use Rattle.base62.proofs.UuidLemmas.{fault_decoded}
use Rattle.base62.proofs.uuid.bytes_of.Goals as goal

pub returns-in-Err : goal.returns-in-Err
returns-in-Err c = λ B text ok is. fault_decoded B ok text c.in-Err.error cc
