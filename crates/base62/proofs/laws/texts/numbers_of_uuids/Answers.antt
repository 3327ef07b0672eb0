use Rattle.base62.proofs.UuidLemmas.{uuid_number-lt}
use Rattle.base62.proofs.laws.texts.numbers_of_uuids.Goals as goal

pub returns : goal.returns
returns c = uuid_number-lt
