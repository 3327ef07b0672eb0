use Rattle.std.proofs.Common.{◌<◌, arith}
use Rattle.base62.proofs.model.uuids.uuids_by_example.Goals as goal

pub returns-clause-no_byte : goal.returns-clause-no_byte
returns-clause-no_byte c = λ h. let less : 256 < 256 = h.bytes 15 in omega (arith, less)
