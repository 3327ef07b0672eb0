use Rattle.base62.proofs.ResultLemmas.{decoding_accepts, decoding-denotes}
use Rattle.base62.proofs.laws.texts.decoded_numbers.Goals as goal

pub returns-clause-decoded : goal.returns-clause-decoded
returns-clause-decoded c = λ B ok text n denotes small. decoding-denotes B ok n small text denotes

pub returns-clause-denotes : goal.returns-clause-denotes
returns-clause-denotes c = λ B ok text n is. (decoding_accepts B ok text n is).0

pub returns-clause-bounded : goal.returns-clause-bounded
returns-clause-bounded c = λ B ok text n is. (decoding_accepts B ok text n is).1
