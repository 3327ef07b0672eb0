-- Texts of a fixed number of letters, the decoding of one, and its writing.
use Rattle.std.specs.Prelude.{◌≡◌, ◌≢◌, ℕ, zero, suc, ◌/◌, ◌%◌, ◌^◌, ◌<◌, ◌==◌, if◌then◌else◌, List, [], ◌∷◌, ◌++◌, length, drop, slice_index, Result, Ok, Err}
use Rattle.base62.specs.declared.fault.DecodeError.{DecodeError}
use Rattle.base62.specs.declared.fault.DecodeError.TheVariants.{InvalidBase62Byte}
use Rattle.base62.specs.declared.fault.FixedError.{FixedError}
use Rattle.base62.specs.declared.fault.FixedError.TheVariants.{WrongLength, Decode}
use Rattle.base62.specs.Canonical.{Denotes}
use Rattle.base62.specs.Decoding.{decoding, IsFirstInvalid}

-- a text of exactly w letters that denotes n
pub record IsFixed (B : List ℕ) (w : ℕ) (text : List ℕ) (n : ℕ) : Type 0 where
  pub size : length text ≡ w
  pub denotes : Denotes B text n

-- a result of decoding, as one of fixed decoding
abbrev pub as_fixed : Result ℕ DecodeError → Result ℕ FixedError
as_fixed (Ok n) = Ok n
as_fixed (Err fault) = Err (Decode fault)

-- the result of fixed decoding: a text of w bytes has that of decoding
abbrev pub fixed_decoding : List ℕ → ℕ → List ℕ → Result ℕ FixedError
fixed_decoding B w text = if length text == w then as_fixed (decoding B text) else Err WrongLength

-- What that says of the text. The result is a number below 2^128 exactly for its text of w letters.
-- It is WrongLength exactly for the texts of another length. For every other text it is the error
-- of decoding.
pub record DecodesFixed
    (B : List ℕ) (w : ℕ) (text : List ℕ) (result : Result ℕ FixedError) : Type 0 where
  pub exact : result ≡ fixed_decoding B w text
  pub accepted : (n : ℕ) → IsFixed B w text n → n < 2 ^ 128 → result ≡ Ok n
  pub of_width : (n : ℕ) → result ≡ Ok n → IsFixed B w text n
  pub decoded : (n : ℕ) → length text ≡ w → decoding B text ≡ Ok n → result ≡ Ok n
  pub back : (n : ℕ) → result ≡ Ok n → decoding B text ≡ Ok n
  pub other : length text ≢ w → result ≡ Err WrongLength
  pub wrong : result ≡ Err WrongLength → length text ≢ w
  pub refused : (fault : DecodeError) → length text ≡ w → decoding B text ≡ Err fault
      → result ≡ Err (Decode fault)
  pub fault : (fault : DecodeError) → result ≡ Err (Decode fault)
      → (length text ≡ w) × (decoding B text ≡ Err fault)
  pub named : (byte index : ℕ) → result ≡ Err (Decode (InvalidBase62Byte byte index))
      → IsFirstInvalid B text byte index

-- the text of exactly w letters for the last w digits of n, with leading zeros if n has fewer
unfoldable pub fixed : List ℕ → ℕ → ℕ → List ℕ
fixed B zero n = []
fixed B (suc w) n = fixed B w (n / 62) ++ slice_index B (n % 62) ∷ []

-- that text replaces the first w bytes of a buffer, and all others are unchanged
abbrev pub WritesFixed : List ℕ → ℕ → ℕ → List ℕ → List ℕ → Type 0
WritesFixed B w n old new = new ≡ fixed B w n ++ drop w old
