use Rattle.std.proofs.Common.{◌≤◌, [], ◌∷◌, codes, refl, arith}
use Rattle.std.specs.List.{range_with_len}
use Rattle.base62.specs.Alphabet.{standard}
use Rattle.base62.proofs.AlphabetLemmas.{standard_is_alphabet}
use Rattle.base62.proofs.ResultLemmas.{answer_tells}
use Rattle.base62.proofs.LiteralLemmas.{denotes_by}
use Rattle.base62.proofs.OnLiterals.{base62_on_literals}
use Rattle.base62.proofs.model.laws.answer_tells_by_example.Goals as goal

pub returns-clause-zeros_and_letters : goal.returns-clause-zeros_and_letters
returns-clause-zeros_and_letters c = answer_tells standard standard_is_alphabet (codes "0LZ")

pub returns-clause-all_bytes : goal.returns-clause-all_bytes
unfolding base62_on_literals
returns-clause-all_bytes c = λ h.
    let least : 2 ≤ 1 = (h.canonical 62 refl).shortest (62 ∷ []) (denotes_by (range_with_len 0 256) (62 ∷ []) 62 (omega arith) refl refl) in omega (arith, least)
