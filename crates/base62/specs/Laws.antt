-- Definitions in the laws on texts.
use Rattle.std.specs.Prelude.{◌≡◌, ◌≢◌, ℕ, ◌+◌, ◌<◌, ◌≤◌, ◌==◌, ◌^◌, ◌↔◌, ◌⊎◌, nat_lt, true, if◌then◌else◌, List, [], ◌∷◌, length, slice_index, Result, Ok, Err, IsOk}
use Rattle.base62.specs.declared.fault.DecodeError.{DecodeError}
use Rattle.base62.specs.declared.fault.DecodeError.TheVariants.{ArithmeticOverflow, EmptyInput, InvalidBase62Byte}
use Rattle.base62.specs.Alphabet.{AreLetters, is_letter, zero_letter}
use Rattle.base62.specs.Value.{value}
use Rattle.base62.specs.Canonical.{IsCanonical}
use Rattle.base62.specs.Decoding.{decoding, after_zeros, IsFirstInvalid, Decodes}

-- a nonempty text has one byte, or does not begin with the zero letter
abbrev pub HasNoLeadingZero : List ℕ → List ℕ → Type 0
HasNoLeadingZero B text =
    (0 < length text) × ((length text ≡ 1) ⊎ (slice_index text 0 ≢ zero_letter B))

-- what follows the leading zeros of a text, or one zero letter if nothing does
abbrev pub without_zeros : List ℕ → List ℕ → List ℕ
without_zeros B text =
    if length (after_zeros B text) == 0 then zero_letter B ∷ [] else after_zeros B text

-- the other text has the same length and only letters, and agrees with the text at each letter of
-- it
pub record AgreesAtLetters (B text other : List ℕ) : Type 0 where
  pub size : length other ≡ length text
  pub letters : AreLetters B other
  pub agrees : (i : ℕ) → i < length text → is_letter B (slice_index text i) ≡ true
      → slice_index other i ≡ slice_index text i

-- What the result of decoding says of the text: which texts are accepted, and their values and
-- canonical texts; which byte an error has; and what an overflow means if a letter follows the
-- leading zeros: with any letters in place of the bad bytes the text denotes 2^128 or more. It
-- includes all that the contract of `decode` says.
pub record AnswerTells (B text : List ℕ) : Type 0 where
  pub decodes : Decodes B text (decoding B text)
  pub accepted : IsOk (decoding B text)
      ↔ ((0 < length text) × AreLetters B text × (value B text < 2 ^ 128))
  pub value_is : (n : ℕ) → decoding B text ≡ Ok n → n ≡ value B text
  pub canonical : (n : ℕ) → decoding B text ≡ Ok n → IsCanonical B (without_zeros B text) n
  pub empty : decoding B text ≡ Err EmptyInput → length text ≡ 0
  pub named : (byte index : ℕ) → decoding B text ≡ Err (InvalidBase62Byte byte index)
      → IsFirstInvalid B text byte index
  pub overflow : decoding B text ≡ Err ArithmeticOverflow
      → is_letter B (slice_index (after_zeros B text) 0) ≡ true
      → (other : List ℕ) → AgreesAtLetters B text other → 2 ^ 128 ≤ value B other

-- a number, or an overflow if it is 2^128 or more
abbrev pub number_or_overflow : ℕ → Result ℕ DecodeError
number_or_overflow n = if nat_lt n (2 ^ 128) then Ok n else Err ArithmeticOverflow

-- the same result, but the index of a bad byte is one greater
abbrev pub one_place_on : Result ℕ DecodeError → Result ℕ DecodeError
one_place_on (Err (InvalidBase62Byte byte index)) = Err (InvalidBase62Byte byte (index + 1))
one_place_on answer = answer
