-- The result of reading a part of a text: its value, or its first byte that is not a letter.
use Rattle.std.specs.Prelude.{◌≡◌, ℕ, ◌+◌, ◌*◌, ◌^◌, ◌<◌, List, length, slice_index, Result, Ok, Err}
use Rattle.base62.specs.declared.fault.DecodeError.{DecodeError}
use Rattle.base62.specs.declared.fault.DecodeError.TheVariants.{InvalidBase62Byte}
use Rattle.base62.specs.Alphabet.{AreLetters}
use Rattle.base62.specs.Value.{value}
use Rattle.base62.specs.Decoding.{invalid_index}

-- the part has only letters and this value, and each letter took a step
pub record HasRead (B part : List ℕ) (old new number : ℕ) : Type 0 where
  pub letters : AreLetters B part
  pub value_is : number ≡ value B part
  pub steps : new ≡ old + length part

-- the error has the first byte of the part that is not a letter, and its index in the text; the
-- part begins at `start`, and that byte and each before it took a step
pub record HasRefused (B part : List ℕ) (start old new : ℕ) (fault : DecodeError) : Type 0 where
  pub within : invalid_index B part < length part
  pub names : fault
      ≡ InvalidBase62Byte (slice_index part (invalid_index B part)) (start + invalid_index B part)
  pub steps : new ≡ old + invalid_index B part + 1

-- one of the two, as the counter goes from `old` to `new`
abbrev pub ReadsPart : List ℕ → List ℕ → ℕ → ℕ → ℕ → Result ℕ DecodeError → Type 0
ReadsPart B part start old new (Ok number) = HasRead B part old new number
ReadsPart B part start old new (Err fault) = HasRefused B part start old new fault

-- the result for the n last bytes, joined to the number of the bytes before them; an error is
-- unchanged
abbrev pub after_number : ℕ → ℕ → Result ℕ DecodeError → Result ℕ DecodeError
after_number number n (Ok m) = Ok (number * 62 ^ n + m)
after_number number n (Err fault) = Err fault

-- a part is read, and its number joined to the one before it
abbrev pub ReadsOn : List ℕ → ℕ → List ℕ → ℕ → ℕ → ℕ → Result ℕ DecodeError → Type 0
ReadsOn B number part start old new result =
    (alone : Result ℕ DecodeError) × ReadsPart B part start old new alone
    × (result ≡ after_number number (length part) alone)
