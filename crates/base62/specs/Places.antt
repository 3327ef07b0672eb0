-- What digits denote, each at its place.
use Rattle.std.specs.Prelude.{ℕ, ◌-◌, ◌*◌, ◌^◌, List, length, slice_index, sum_by}
use Rattle.std.specs.List.{range_with_len}

-- the digit at place i, times the base to the number of digits after it
abbrev pub at_place : ℕ → List ℕ → ℕ → ℕ
at_place base digits i = slice_index digits i * base ^ (length digits - 1 - i)

-- the number that digits denote in a base: the sum over their places
unfoldable pub sum_over_places : ℕ → List ℕ → ℕ
sum_over_places base digits = sum_by (at_place base digits) (range_with_len 0 (length digits))
