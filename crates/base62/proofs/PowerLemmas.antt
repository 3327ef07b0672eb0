-- Bounds by powers of 62.
use Rattle.std.proofs.Common.{◌≡◌, ℕ, ◌+◌, ◌-◌, ◌*◌, ◌/◌, ◌%◌, ◌^◌, ◌<◌, ◌≤◌, sym, arith}
use Rattle.std.proofs.Math.Nat.{pow-le-pow_right, div-lt_iff_lt-mul, one-le-pow, mod-eq-sub-div-mul}
use Rattle.std.proofs.lemmas.Nat.{pow-add}

pub power_grows : (i j : ℕ) → i ≤ j → 62 ^ i ≤ 62 ^ j
power_grows i j le = pow-le-pow_right {n = 62} (omega arith) {i = i} {j = j} le

-- a number of few digits is one of more
pub fits_more : (n p k : ℕ) → n < 62 ^ p → p ≤ k → n < 62 ^ k
fits_more n p k fits le = omega (arith, fits, power_grows p k le)

-- the quotient by 62^w of a number of v + w digits has v
pub quotient_fits : (n v w t : ℕ) → v + w ≡ t → n < 62 ^ t → n / 62 ^ w < 62 ^ v
quotient_fits n v w t both fits =
    let some : 1 ≤ 62 ^ w = one-le-pow w 62 (omega arith) in
    let whole : n < 62 ^ (v + w) = rw both fits in
    (div-lt_iff_lt-mul {k = 62 ^ w} {x = n} {y = 62 ^ v} (omega (arith, some))).1 (omega (arith, whole, pow-add 62 v w))

-- a number less its quotient times the divisor is the remainder
pub remainder_is : (n p : ℕ) → n - n / p * p ≡ n % p
remainder_is n p = sym (mod-eq-sub-div-mul n p)
