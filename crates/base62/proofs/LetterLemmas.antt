-- What is true of each byte of an alphabet is true of letters.
use Rattle.std.proofs.Common.{ℕ, ◌<◌, List, subst}
use Rattle.std.specs.List.{All}
use Rattle.std.specs.Str.{IsAscii}
use Rattle.std.proofs.lemmas.List.Elements.{All-from_get_or, All-get_or, All-weaker}
use Rattle.std.proofs.lemmas.Str.Ascii.{IsAscii-from_all}
use Rattle.base62.specs.Alphabet.{AreLetters}
use Rattle.base62.specs.Value.{digit_or_zero}
use Rattle.base62.proofs.AlphabetLemmas.{IsLetter, letter-digit_of, digit_of-is}

-- a letter is the byte at the place of its digit
pub letters_keep : (B text : List ℕ) (P : ℕ → Type 0) → All P B → AreLetters B text → All P text
letters_keep B text P all letters =
    let keeps = λ (b : ℕ) (h : IsLetter B b).
    let at = letter-digit_of B b _ (digit_of-is B b h) in subst P at.1 (All-get_or P B (digit_or_zero B b) 0 at.0 all) in
    All-weaker (IsLetter B) P keeps text letters

-- so over an alphabet of ASCII a text of letters is ASCII
pub letters_ascii : (B : List ℕ) → IsAscii B → (text : List ℕ) → AreLetters B text → IsAscii text
letters_ascii B ascii text letters =
    let below = All-from_get_or (λ b. b < 128) B 0 (λ i _. ascii i) in
    IsAscii-from_all text (letters_keep B text (λ b. b < 128) below letters)
