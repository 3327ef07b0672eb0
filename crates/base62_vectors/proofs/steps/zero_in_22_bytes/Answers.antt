use Rattle.std.proofs.Common.{◌+◌, codes, Ok, refl, ap, ◌∙◌, arith}
use Rattle.base62.proofs.OnLiterals.{base62_on_literals}
use Rattle.base62_vectors.proofs.CountedLemmas.{counted}
use Rattle.base62_vectors.proofs.steps.zero_in_22_bytes.Goals as goal

pub returns : goal.returns
unfolding base62_on_literals
returns c =
    let only = (rw c.standard.ensures at c.text_of_number.ensures) (refl {a = Ok 0}) (refl {a = codes "0"}) in
    let known = counted (codes "0") only c.encode_bytes_counted-answer.result (omega arith) c.encode_bytes_counted-answer.ensures in
    record { answer = known.0; steps = known.1 ∙ ap (λ w. w + 1) c.new-work.ensures }
