use Rattle.base62.proofs.ZeroLemmas.{decoding-zero_front}
use Rattle.base62.proofs.laws.texts.zero_in_front.Goals as goal

pub returns : goal.returns
returns c = decoding-zero_front
