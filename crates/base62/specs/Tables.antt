-- The tables of an alphabet: its letters, and the digits of all bytes over it.
use Rattle.std.specs.Prelude.{◌≡◌, ℕ, List, map, unwrap_or}
use Rattle.std.specs.List.{range_with_len}
use Rattle.base62.specs.declared.alphabet.tables.Tables.{Tables}
use Rattle.base62.specs.Alphabet.{IsAlphabet, digit_of}

-- the digit of a byte, or 255 if it has none
abbrev pub digit_or_255 : List ℕ → ℕ → ℕ
digit_or_255 B b = unwrap_or (digit_of B b) 255

-- the same for each byte from 0 to 255
unfoldable pub digits_of_bytes : List ℕ → List ℕ
digits_of_bytes B = map (digit_or_255 B) (range_with_len 0 256)

-- the letters are an alphabet, and the digits are those of all bytes over it
pub record AreTables (t : Tables) : Type 0 where
  pub alphabet : IsAlphabet t.letters
  pub digits : t.digits ≡ digits_of_bytes t.letters
