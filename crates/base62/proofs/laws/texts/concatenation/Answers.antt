use Rattle.base62.proofs.ResultLemmas.{decoding-append}
use Rattle.base62.proofs.laws.texts.concatenation.Goals as goal

pub returns : goal.returns
returns c = decoding-append
