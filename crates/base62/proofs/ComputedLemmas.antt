-- Functions that are equal at each number of a range, by computation.
use Rattle.std.proofs.Common.{◌≡◌, ℕ, ◌+◌, ◌-◌, ◌<◌, ◌≤◌, true, leb, get_or, map, sym, ap, ◌∙◌, arith}
use Rattle.std.specs.List.{range_with_len}
use Rattle.std.proofs.lemmas.Bool.{leb-true}
use Rattle.std.proofs.lemmas.List.FromFn.{get_or-map-range_with_len}

-- two functions whose lists over n numbers from a on are equal agree there
pub same_on_range : {Y : Type 0} (f g : ℕ → Y) (a n : ℕ)
    → map f (range_with_len a n) ≡ map g (range_with_len a n) → (k : ℕ) → a ≤ k → k < a + n
    → f k ≡ g k
same_on_range f g a n all k from below =
    let i = k - a in
    sym (get_or-map-range_with_len f a n i k (f k) (omega arith) (omega arith)) ∙ ap (λ xs. get_or xs i (f k)) all
    ∙ get_or-map-range_with_len g a n i k (f k) (omega arith) (omega arith)

-- and one is at most the other if the test is true there
pub at_most_on_range : (f g : ℕ → ℕ) (a n : ℕ)
    → map (λ k. leb (f k) (g k)) (range_with_len a n) ≡ map (λ _. true) (range_with_len a n)
    → (k : ℕ) → a ≤ k → k < a + n → f k ≤ g k
at_most_on_range f g a n all k from below = leb-true (f k) (g k) (same_on_range (λ k. leb (f k) (g k)) (λ _. true) a n all k from below)
