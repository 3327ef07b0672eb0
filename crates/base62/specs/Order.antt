-- Orders of texts.
use Rattle.std.specs.Prelude.{ℕ, ◌+◌, ◌<◌, IsTrue, Bool, nat_lt, List, length, slice_index, Option, Some}
use Rattle.std.specs.List.{list_all, range_with_len}
use Rattle.std.specs.Ordering.{is_le, nat_cmp, ordering_then}
use Rattle.std.specs.Cmp.Lexicographic.{slice_cmp, slice_partial_cmp}
use Rattle.std.specs.declared.cmp.Ordering.{Ordering}

-- lexicographic order: the lesser byte decides at the first place where two texts differ; a proper
-- prefix is less
abbrev pub lexicographic_order : List ℕ → List ℕ → Ordering
lexicographic_order a b = slice_cmp nat_cmp a b

-- the same order as the result of `<` of two slices or arrays
abbrev pub partial_order : List ℕ → List ℕ → Option Ordering
partial_order a b = slice_partial_cmp (λ x y. Some (nat_cmp x y)) a b

-- one text is before another in lexicographic order, or is the same
abbrev pub IsNotAfter : List ℕ → List ℕ → Type 0
IsNotAfter a b = IsTrue (is_le (lexicographic_order a b))

-- shortlex order: the shorter text is less, and texts of one length go by lexicographic order
abbrev pub shortlex_order : List ℕ → List ℕ → Ordering
shortlex_order a b = ordering_then (nat_cmp (length a) (length b)) (lexicographic_order a b)

-- each letter of an alphabet is a greater byte than the one before it
abbrev pub Ascends : List ℕ → Type 0
Ascends B = (d : ℕ) → d < 61 → slice_index B d < slice_index B (d + 1)

-- the test of literal letters: each is a greater byte than the one before it
abbrev pub is_ascending : List ℕ → Bool
is_ascending letters =
    list_all (λ d. nat_lt (slice_index letters d) (slice_index letters (d + 1)))
    (range_with_len 0 61)
