use Rattle.std.proofs.Common.{sym, ◌∙◌}
use Rattle.base62.proofs.UuidLemmas.{number_of_bytes, bytes_are_uuid, same_uuid}
use Rattle.base62.proofs.laws.texts.uuid_of_number.Goals as goal

pub returns-clause-number : goal.returns-clause-number
returns-clause-number c = number_of_bytes c.args.number c.ranges.number.fits

pub returns-clause-only : goal.returns-clause-only
returns-clause-only c = λ uuid is same. same_uuid _ uuid (bytes_are_uuid c.args.number) is (number_of_bytes c.args.number c.ranges.number.fits ∙ sym same)
