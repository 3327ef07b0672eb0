-- The value of a text.
use Rattle.std.specs.Prelude.{ℕ, List, map, unwrap_or}
use Rattle.base62.specs.Alphabet.{digit_of}
use Rattle.base62.specs.Places.{sum_over_places}

-- the digit of a letter; other bytes count as 0, but only the value of letters is used
abbrev pub digit_or_zero : List ℕ → ℕ → ℕ
digit_or_zero B b = unwrap_or (digit_of B b) 0

-- the value of a text of letters: what its digits denote in base 62
unfoldable pub value : List ℕ → List ℕ → ℕ
value B text = sum_over_places 62 (map (digit_or_zero B) text)
