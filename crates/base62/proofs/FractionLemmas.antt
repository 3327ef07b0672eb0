-- The letters of a fraction of 2^64, from the first to the last. A fraction f stands for the number
-- f * 62^k / 2^64 of k letters, and f * 62^k % 2^64 is the fraction of the letters after them.
use Rattle.std.proofs.Common.{◌≡◌, ℕ, ◌+◌, ◌*◌, ◌/◌, ◌%◌, ◌^◌, ◌<◌, ◌≤◌, List, length, sym, ap, ◌∙◌, arith}
use Rattle.std.proofs.Math.Nat.{mul-add-div_right, div-lt_iff_lt-mul, one-le-pow}
use Rattle.std.proofs.lemmas.Nat.{div-add-mod', div-mul-add, mod-mul-add, pow-add}
use Rattle.base62.specs.Fixed.{WritesFixed}
use Rattle.base62.proofs.WritingLemmas.{written_on, put_from, places_from}

-- a product by p, whose other factor is cut into q times s and r
cut : (q r s p : ℕ) → (q * s + r) * p ≡ q * p * s + r * p
cut q r s p = grind arith

module _ (x s p : ℕ) (some : 0 < s) (any : 0 < p) where
  abbrev behind : ℕ
  behind = x % s * p / s

  behind_fits : behind < p
  behind_fits = (div-lt_iff_lt-mul {k = s} {x = x % s * p} {y = p} some).1 (grind arith)

  product_cut : x * p / s ≡ x / s * p + behind
  product_cut =
      let whole = sym (div-add-mod' x s) in
      let parts = cut (x / s) (x % s) s p in
      ap (λ n. n * p / s) whole ∙ ap (λ n. n / s) parts ∙ mul-add-div_right some (x / s * p) (x % s * p)

  product_quotient : x / s ≡ x * p / s / p
  product_quotient = rw product_cut (sym (div-mul-add (x / s) p behind behind_fits))

  product_remainder : behind ≡ x * p / s % p
  product_remainder = rw product_cut (sym (mod-mul-add (x / s) p behind behind_fits))

-- v letters of a fraction f are written, and then w letters of the fraction g after them
module _ (f g v w t : ℕ) (both : v + w ≡ t) (after : g ≡ f * 62 ^ v % 2 ^ 64) where
  power : f * 62 ^ v * 62 ^ w ≡ f * 62 ^ t
  power = rw (← both, pow-add) (grind arith)

  some : 0 < 62 ^ w
  some = omega (arith, one-le-pow w 62 (omega arith))

  quotient : f * 62 ^ v / 2 ^ 64 ≡ f * 62 ^ t / 2 ^ 64 / 62 ^ w
  quotient = rw power at (product_quotient (f * 62 ^ v) (2 ^ 64) (62 ^ w) (omega arith) some)

  remainder : g * 62 ^ w / 2 ^ 64 ≡ f * 62 ^ t / 2 ^ 64 % 62 ^ w
  remainder = rw after (rw power at (product_remainder (f * 62 ^ v) (2 ^ 64) (62 ^ w) (omega arith) some))

  pub fraction_on : (B old mid part : List ℕ) → t ≤ length old
      → WritesFixed B w (g * 62 ^ w / 2 ^ 64) (places_from v mid) part
      → WritesFixed B v (f * 62 ^ v / 2 ^ 64) old mid
      → WritesFixed B t (f * 62 ^ t / 2 ^ 64) old (put_from v mid part)
  fraction_on B old mid part room back front =
      written_on B v w t (f * 62 ^ t / 2 ^ 64) _ _ both quotient remainder old mid part room back front
