use Rattle.base62.proofs.UuidStringLemmas.{one_uuid}
use Rattle.base62.proofs.laws.texts.uuid_strings.Goals as goal

pub returns-clause-only : goal.returns-clause-only
returns-clause-only c = one_uuid
