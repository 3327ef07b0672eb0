use Rattle.base62.proofs.ResultLemmas.{answer_tells}
use Rattle.base62.proofs.laws.texts.accepted_and_refused.Goals as goal

pub returns : goal.returns
returns c = answer_tells
