-- The decimal digits of a number, cut in two.
use Rattle.std.proofs.Common.{◌≡◌, ℕ, zero, suc, ◌+◌, ◌-◌, ◌*◌, ◌/◌, ◌%◌, ◌^◌, ◌<◌, inl, inr, false, List, [], ◌∷◌, ◌++◌, length, refl, sym, arith, append_assoc, append-nil, mul-pos}
use Rattle.std.specs.Prelude.{replicate, decimal}
use Rattle.std.specs.Fmt.{padded_integral, format_spec, char_count}
use Rattle.std.proofs.Math.Nat.{pow-suc, one-le-pow}
use Rattle.std.proofs.lemmas.Bool.{cases_lt}
use Rattle.std.proofs.lemmas.Fmt.{decimal_digit, decimal_step_wide}
use Rattle.std.proofs.lemmas.List.{length-append, replicate-append-replicate}

-- a number in decimal, after zeros up to a width
abbrev pub with_zeros : ℕ → ℕ → List ℕ
with_zeros width n = replicate (width - length (decimal n)) 48 ++ decimal n

-- what `{:019}` writes
pub zeros_written : (n : ℕ)
    → padded_integral (format_spec 32 0 4 19 (2 ^ 64 - 1)) false [] (decimal n) ≡ with_zeros 19 n
unfolding padded_integral char_count
zeros_written n =
    let width : 19 - length (decimal n) - 0 - 0 ≡ 19 - length (decimal n) = omega arith in
    rw (width, append-nil (decimal n)) refl

-- its last digit, if there are more
with_zeros_step : (k n : ℕ) → n < 10 ^ 64
    → with_zeros (suc (suc k)) n ≡ with_zeros (suc k) (n / 10) ++ (48 + n % 10) ∷ []
with_zeros_step k n small = elim (cases_lt n 10) [
  | inl one ↦
      let front : n / 10 ≡ 0 = omega arith in
      let last : n % 10 ≡ n = omega arith in
      let width : suc (suc k) - 1 ≡ k + 1 = omega arith in
      let shorter : suc k - 1 ≡ k = omega arith in
      let zeros : replicate {A = ℕ} (k + 1) 48 ≡ replicate k 48 ++ 48 ∷ [] = sym (replicate-append-replicate k 1 48) in
      rw (front, last, decimal_digit n one, decimal_digit 0 (omega arith), width, shorter, zeros) refl
  | inr more ↦
      let digits = decimal (n / 10) in
      let last = (48 + n % 10) ∷ [] in
      let width : suc (suc k) - length (digits ++ last) ≡ suc k - length digits = omega (arith, length-append digits last) in
      rw (decimal_step_wide n more small, width) (sym (append_assoc (replicate (suc k - length digits) 48) digits last))
]

-- the digits of a number are those of its upper part, and then those of its lower part with leading zeros
pub decimal_parts : (k high low : ℕ) → 0 < high → low < 10 ^ suc k
    → high * 10 ^ suc k + low < 10 ^ 64
    → decimal (high * 10 ^ suc k + low) ≡ decimal high ++ with_zeros (suc k) low
decimal_parts zero high low some short small =
    let n = high * 10 + low in
    let front : n / 10 ≡ high = omega arith in
    let last : n % 10 ≡ low = omega arith in
    rw (decimal_step_wide n (omega arith) small, front, last, decimal_digit low (omega arith)) refl
decimal_parts (suc k) high low some short small =
    let n = high * 10 ^ suc (suc k) + low in
    let upper = high * 10 ^ suc k in
    let tens : high * 10 ^ suc (suc k) ≡ upper * 10 = rw (pow-suc 10 (suc k)) (omega arith) in
    let large : 0 < upper = mul-pos some (one-le-pow (suc k) 10 (omega arith)) in
    let front : n / 10 ≡ upper + low / 10 = omega (arith, tens) in
    let last : n % 10 ≡ low % 10 = omega (arith, tens) in
    let below : low / 10 < 10 ^ suc k = omega (arith, pow-suc 10 (suc k)) in
    let digits = decimal_parts k high (low / 10) some below (omega (arith, tens)) in
    rw (decimal_step_wide n (omega (arith, tens)) small, front, last, digits, with_zeros_step k low (omega (arith, tens)))
    (append_assoc (decimal high) (with_zeros (suc k) (low / 10)) ((48 + low % 10) ∷ []))
