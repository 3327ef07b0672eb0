-- The steps of calls. A step looks up the digit of a byte, the letter of a digit, or the letters of
-- two digits at once.
use Rattle.std.specs.Prelude.{◌≡◌, ℕ, ◌+◌, ◌-◌, ◌≤◌, ◌==◌, nat_lt, not, if◌then◌else◌, List, [], ◌∷◌, length, slice_index, Result, MatchResult}
use Rattle.std.specs.List.{list_all}
use Rattle.base62.specs.declared.fault.DecodeError.{DecodeError}
use Rattle.base62.specs.declared.fault.EncodeError.{EncodeError}
use Rattle.base62.specs.Alphabet.{is_letter}
use Rattle.base62.specs.Decoding.{decoding, leading_zeros, after_zeros, first_ten, invalid_index, shows_overflow}
use Rattle.base62.specs.Encoding.{EncodesInto}

-- one for each byte after the leading zeros, up to and including the first that is not a letter
abbrev pub steps_to_invalid : List ℕ → List ℕ → ℕ
steps_to_invalid B text = invalid_index B text - leading_zeros B text + 1

-- The steps of decoding, by its cases. An empty text takes none; nor does one with more than 22
-- bytes after its leading zeros. A bad byte among the first ten is the last that is read. Ten are
-- read if those show an overflow. A later bad byte is the last that is read. Of any other text
-- each byte after the leading zeros is read.
unfoldable pub decoding_steps : List ℕ → List ℕ → ℕ
decoding_steps B text =
    if length text == 0 then 0
    else if nat_lt 22 (length (after_zeros B text)) then 0
    else if not (list_all (is_letter B) (first_ten B text)) then steps_to_invalid B text
    else if shows_overflow B text then 10
    else if not (list_all (is_letter B) (after_zeros B text)) then steps_to_invalid B text
    else length (after_zeros B text)

-- a counted call returns the result of decoding, and adds exactly its steps, at most 22
pub record DecodesCounted
    (B text : List ℕ) (old new : ℕ) (result : Result ℕ DecodeError) : Type 0 where
  pub answer : result ≡ decoding B text
  pub steps : new ≡ old + decoding_steps B text
  pub most : new ≤ old + 22

-- the steps of encoding, by the number of letters, from 1 to 22
unfoldable pub encoding_steps : ℕ → ℕ
encoding_steps d = slice_index
    (1 ∷ 1 ∷ 2 ∷ 2 ∷ 3 ∷ 3 ∷ 4 ∷ 4 ∷ 5 ∷ 7 ∷ 7
    ∷ 7 ∷ 8 ∷ 8 ∷ 9 ∷ 9 ∷ 10 ∷ 10 ∷ 11 ∷ 12 ∷ 13 ∷ 13 ∷ [])
    (d - 1)

-- a counted call encodes into a buffer, and adds exactly the steps for the length that it returns,
-- at most 13; an error takes none
pub record EncodesCounted
    (B : List ℕ) (n : ℕ) (old new : List ℕ) (before after : ℕ) (result : Result ℕ EncodeError)
    : Type 0 where
  pub answer : EncodesInto B n old new result
  pub steps : MatchResult result (λ len. after ≡ before + encoding_steps len) (λ _. after ≡ before)
  pub most : after ≤ before + 13
