use Rattle.std.proofs.Common.{◌^◌, ◌-◌, codes, refl, lit≤, arith}
use Rattle.base62.specs.Alphabet.{standard, alternative}
use Rattle.base62.proofs.AlphabetLemmas.{standard_is_alphabet, alternative_is_alphabet}
use Rattle.base62.proofs.LiteralLemmas.{denotes_by, canonical_by}
use Rattle.base62.proofs.OnLiterals.{base62_on_literals}
use Rattle.base62.proofs.model.texts.canonical_texts_by_example.Goals as goal

pub returns-clause-two_letters : goal.returns-clause-two_letters
unfolding base62_on_literals
returns-clause-two_letters c = canonical_by standard standard_is_alphabet (codes "10") 62 (denotes_by standard (codes "10") 62 (omega arith) refl refl) (lit≤ tt)

pub returns-clause-other_alphabet : goal.returns-clause-other_alphabet
unfolding base62_on_literals
returns-clause-other_alphabet c =
    canonical_by alternative alternative_is_alphabet (codes "lz") 1337 (denotes_by alternative (codes "lz") 1337 (omega arith) refl refl) (lit≤ tt)

pub returns-clause-greatest : goal.returns-clause-greatest
unfolding base62_on_literals
returns-clause-greatest c =
    let text = codes "7n42DGM5Tflk9n8mt7Fhc7" in
    canonical_by standard standard_is_alphabet text (2 ^ 128 - 1) (denotes_by standard text (2 ^ 128 - 1) (omega arith) refl refl) (lit≤ tt)
