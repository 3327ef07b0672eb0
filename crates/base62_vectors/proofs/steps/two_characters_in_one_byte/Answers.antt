use Rattle.std.proofs.Common.{codes, Ok, refl, ◌∙◌, arith}
use Rattle.base62.proofs.OnLiterals.{base62_on_literals}
use Rattle.base62_vectors.proofs.CountedLemmas.{uncounted}
use Rattle.base62_vectors.proofs.steps.two_characters_in_one_byte.Goals as goal

pub returns : goal.returns
unfolding base62_on_literals
returns c =
    let only = (rw c.standard.ensures at c.text_of_number.ensures) (refl {a = Ok 1337}) (refl {a = codes "LZ"}) in
    let known = uncounted (codes "LZ") only c.encode_bytes_counted-answer.result (omega arith) c.encode_bytes_counted-answer.ensures in
    record { answer = known.0; steps = known.1 ∙ c.new-work.ensures }
