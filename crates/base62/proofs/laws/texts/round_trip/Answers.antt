use Rattle.base62.proofs.ResultLemmas.{decoding-denotes}
use Rattle.base62.proofs.laws.texts.round_trip.Goals as goal

pub returns-clause-back : goal.returns-clause-back
returns-clause-back c = λ B ok n small text canonical. decoding-denotes B ok n small text canonical.denotes
