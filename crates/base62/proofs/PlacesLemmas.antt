-- What digits denote, one digit or one part at a time.
use Rattle.std.proofs.Common.{◌≡◌, ℕ, zero, suc, ◌+◌, ◌-◌, ◌*◌, ◌^◌, ◌<◌, List, [], ◌∷◌, ◌++◌, length, sum_by, refl, ◌∙◌, arith, add-one}
use Rattle.std.proofs.Math.Nat.{pow-suc, pow-zero}
use Rattle.std.specs.List.{range_with_len, All}
use Rattle.std.proofs.lemmas.List.{length-append}
use Rattle.std.proofs.lemmas.List.Elements.{All-head, All-tail}
use Rattle.std.proofs.lemmas.List.Sums.{sum_by-cons}
use Rattle.std.proofs.lemmas.Nat.{pow-add, mul-add-lt, same_from_place}
use Rattle.base62.specs.Places.{at_place, sum_over_places}

pow_one : (base : ℕ) → base ^ 1 ≡ base
pow_one base = pow-suc base 0 ∙ rw (pow-zero base) (omega arith)

-- a digit keeps its weight if another precedes it
at_place_later : (base d : ℕ) (ds : List ℕ) (i : ℕ)
    → at_place base (d ∷ ds) (i + 1) ≡ at_place base ds i
at_place_later base d ds i =
    let e : suc (length ds) - 1 - suc i ≡ length ds - 1 - i = omega arith in rw (add-one i, e)

-- nor does the sum of their weights change
sum_by_later : (base d : ℕ) (ds : List ℕ) (m a : ℕ)
    → sum_by (at_place base (d ∷ ds)) (range_with_len (a + 1) m)
    ≡ sum_by (at_place base ds) (range_with_len a m)
sum_by_later base d ds zero a = refl
sum_by_later base d ds (suc m) a =
    rw (sum_by-cons (at_place base (d ∷ ds)) (a + 1) (range_with_len (a + 1 + 1) m), sum_by-cons (at_place base ds) a (range_with_len (a + 1) m))
    (rw (at_place_later base d ds a, sum_by_later base d ds m (a + 1)))

pub places-nil : (base : ℕ) → sum_over_places base [] ≡ 0
unfolding sum_over_places
places-nil base = refl

-- a digit before others adds its place
pub places-cons : (base d : ℕ) (ds : List ℕ)
    → sum_over_places base (d ∷ ds) ≡ d * base ^ length ds + sum_over_places base ds
unfolding sum_over_places
places-cons base d ds =
    let e : suc (length ds) - 1 - 0 ≡ length ds = omega arith in
    rw (sum_by-cons (at_place base (d ∷ ds)) 0 (range_with_len (0 + 1) (length ds)), e, sum_by_later base d ds (length ds) 0)

-- the sum of digits before others is multiplied by the base to the number of the others
pub places-append : (base : ℕ) (xs ys : List ℕ)
    → sum_over_places base (xs ++ ys)
    ≡ sum_over_places base xs * base ^ length ys + sum_over_places base ys
places-append base [] ys = rw (places-nil base) (omega arith)
places-append base (d ∷ ds) ys =
    let ih = places-append base ds ys in
    let front = places-cons base d (ds ++ ys) in
    let back = places-cons base d ds in
    let weight : base ^ length (ds ++ ys) ≡ base ^ length ds * base ^ length ys = rw (length-append ds ys, pow-add base (length ds) (length ys)) in
    rw (front, ih, back, weight) (omega arith)

-- one digit appended multiplies the others by the base
pub places_push : (base : ℕ) (ds : List ℕ) (d : ℕ)
    → sum_over_places base (ds ++ d ∷ []) ≡ sum_over_places base ds * base + d
places_push base ds d =
    let shift : base ^ length (d ∷ []) ≡ base = pow_one base in
    let unit : base ^ length {A = ℕ} [] ≡ 1 = pow-zero base in
    rw (places-append base ds (d ∷ []), places-cons base d [], places-nil base, shift, unit) (omega arith)

-- k digits add up to less than base^k
pub places-lt : (base : ℕ) (ds : List ℕ) → All (λ d. d < base) ds
    → sum_over_places base ds < base ^ length ds
places-lt base [] h = let unit : base ^ length {A = ℕ} [] ≡ 1 = pow-zero base in rw (places-nil base, unit) (omega arith)
places-lt base (d ∷ ds) h =
    let ih = places-lt base ds (All-tail (λ d. d < base) d ds h) in
    let first : d < base = All-head (λ d. d < base) d ds h in
    rw (places-cons base d ds, pow-suc base (length ds)) (mul-add-lt d (base ^ length ds) (sum_over_places base ds) base first ih)

-- as many digits that denote the same are the same
pub same_digits : (base : ℕ) (ds es : List ℕ) → length ds ≡ length es → All (λ d. d < base) ds
    → All (λ d. d < base) es → sum_over_places base ds ≡ sum_over_places base es → ds ≡ es
same_digits base [] [] len p q sums = refl
same_digits base [] (e ∷ es) len p q sums = cc
same_digits base (d ∷ ds) [] len p q sums = cc
same_digits base (d ∷ ds) (e ∷ es) len p q sums =
    let tails : length ds ≡ length es = omega arith in
    let low = All-tail (λ d. d < base) d ds p in
    let later = All-tail (λ d. d < base) e es q in
    let below : sum_over_places base es < base ^ length ds = rw tails (places-lt base es later) in
    let places = same_from_place d (sum_over_places base ds) e (sum_over_places base es) (base ^ length ds) (places-lt base ds low) below
    (rw (places-cons base d ds, places-cons base e es, ← tails) at sums) in
    let rest = same_digits base ds es tails low later places.1 in
    let first = places.0 in
    cc

pub ruleset one_at_a_time = (places-nil, places-cons)
