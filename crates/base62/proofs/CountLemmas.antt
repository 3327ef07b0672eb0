-- The count of a number's letters by the place b of its highest bit: it is b * 43 / 256 + 1, or one more.
use Rattle.std.proofs.Common.{◌≡◌, ℕ, ◌+◌, ◌-◌, ◌*◌, ◌/◌, ◌^◌, ◌<◌, ◌≤◌, Bool, true, false, nat_lt, get_or, min, refl, inr, arith}
use Rattle.std.proofs.lemmas.Bool.{ltb-true, ltb-false}
use mir.Val.{bool_byte}
use Rattle.std.proofs.Math.Nat.{pow-le-pow_left}
use Rattle.base62.specs.declared.powers.TheConstants.{GREATEST, GREATEST_NARROW}
use Rattle.base62.specs.Canonical.{DigitCount}
use Rattle.base62.proofs.ComputedLemmas.{same_on_range, at_most_on_range}
use Rattle.base62.proofs.FixedLemmas.{digit_count_is}

-- a count by six bits a letter, which a power of 2 shows, as 64 is 2^6
abbrev estimate : ℕ → ℕ
estimate b = b * 43 / 256 + 1

-- the number is between two powers of 64
from_power_of_64 : (n b : ℕ) → b < 128 → 2 ^ b ≤ n → 64 ^ (b * 43 / 256) ≤ n
from_power_of_64 n b few low =
    let below = at_most_on_range (λ b. 64 ^ (b * 43 / 256)) (λ b. 2 ^ b) 0 128 refl b (omega arith) few in omega (arith, low, below)

below_power_of_64 : (n b : ℕ) → b < 128 → n < 2 * 2 ^ b → n < 64 ^ estimate b
below_power_of_64 n b few high =
    let above = at_most_on_range (λ b. 2 * 2 ^ b) (λ b. 64 ^ (b * 43 / 256 + 1)) 0 128 refl b (omega arith) few in omega (arith, high, above)

-- a power of 62 is at most that of 64
power_of_62_le_64 : (k : ℕ) → 62 ^ k ≤ 64 ^ k
power_of_62_le_64 k = pow-le-pow_left {n = 62} {m = 64} (omega arith) k

-- and up to 64^22 the next power of 62 is at least that of 64
power_of_64_le_62 : (e : ℕ) → e ≤ 22 → 64 ^ e ≤ 62 ^ (e + 1)
power_of_64_le_62 e few = at_most_on_range (λ e. 64 ^ e) (λ e. 62 ^ (e + 1)) 0 23 refl e (omega arith) (omega arith)

-- the literal thresholds are the greatest numbers of each length, below the limit of their type
pub greatest_is : (k : ℕ) → k < 23 → get_or GREATEST k 0 + 1 ≡ min (62 ^ k) (2 ^ 128)
greatest_is k few = same_on_range (λ k. get_or GREATEST k 0 + 1) (λ k. min (62 ^ k) (2 ^ 128)) 0 23 refl k (omega arith) few

pub greatest_narrow_is : (k : ℕ) → k < 12 → get_or GREATEST_NARROW k 0 + 1 ≡ min (62 ^ k) (2 ^ 64)
greatest_narrow_is k few = same_on_range (λ k. get_or GREATEST_NARROW k 0 + 1) (λ k. min (62 ^ k) (2 ^ 64)) 0 12 refl k (omega arith) few

-- the estimate is right, or short by one
module _ (n b limit greatest : ℕ) (few : b < 128) (low : 2 ^ b ≤ n) (high : n < 2 * 2 ^ b) (small : n < limit) (threshold : greatest + 1 ≡ min (62 ^ estimate b) limit) where
  estimate_right : n ≤ greatest → DigitCount n (estimate b)
  estimate_right within =
      let back : estimate b - 1 ≡ b * 43 / 256 = omega arith in
      let least : 62 ^ (estimate b - 1) ≤ n = rw back (omega (arith, power_of_62_le_64 (b * 43 / 256), from_power_of_64 n b few low)) in
      digit_count_is n (estimate b) (omega arith) (omega (arith, within, threshold)) (inr least)

  estimate_short : greatest < n → DigitCount n (estimate b + 1)
  estimate_short beyond =
      let back : estimate b + 1 - 1 ≡ estimate b = omega arith in
      let least : 62 ^ (estimate b + 1 - 1) ≤ n = rw back (omega (arith, beyond, small, threshold)) in
      let fits : n < 62 ^ (estimate b + 1) = omega (arith, below_power_of_64 n b few high, power_of_64_le_62 (estimate b) (omega (arith, few))) in
      digit_count_is n (estimate b + 1) (omega arith) fits (inr least)

  -- so the test whether it is short corrects it
  pub estimate_corrected : (short : Bool) → nat_lt greatest n ≡ short → DigitCount n (estimate b + bool_byte short)
  estimate_corrected true test = estimate_short (ltb-true greatest n test)
  estimate_corrected false test =
      let same : estimate b + 0 ≡ estimate b = omega arith in
      rw same (estimate_right (ltb-false greatest n test))
