-- Parts appended to a text whose capacity is enough for them.
use Rattle.std.proofs.Common.{◌≡◌, ◌+◌, ◌/◌, ◌%◌, ◌≤◌, ◌<◌, ◌^◌, ℕ, List, [], ◌∷◌, ◌++◌, length, drop, set, le-leb, refl, ap, ◌∙◌, arith, append_assoc}
use Rattle.std.proofs.lemmas.List.{length-append, drop-set}
use Rattle.std.proofs.lemmas.Fmt.{decimal_digit, decimal_step, decimal_nonempty, length-decimal-le}
use Rattle.std.specs.Fmt.{decimal}
use Rattle.std.specs.Fmt.Cut.{cut_to}

-- a text that fits is whole
pub cut_to_fits : (room : ℕ) (text : List ℕ) → length text ≤ room → cut_to room text ≡ text
unfolding cut_to
cut_to_fits room text fits = rw (le-leb (length text) room fits) refl

-- a number of 64 bits has at most twenty digits
pub length_le_20 : (n : ℕ) → n < 2 ^ 64 → length (decimal n) ≤ 20
length_le_20 n fits = length-decimal-le 20 n (omega arith) (omega arith) fits

-- a number from 10 on has a digit more than its tenth, which has some
pub digit_more : (n : ℕ) → 10 ≤ n → n < 2 ^ 64
    → (0 < length (decimal (n / 10))) × (length (decimal n) ≡ length (decimal (n / 10)) + 1)
digit_more n more fits =
    (decimal_nonempty (n / 10) (omega arith), ap length (decimal_step n more fits) ∙ length-append (decimal (n / 10)) ((48 + n % 10) ∷ []))

-- the last digit of a number, in front of what follows it
pub last_digit : (n start : ℕ) (digits : List ℕ) → 10 ≤ n → n < 2 ^ 64 → start < length digits
    → decimal (n / 10) ++ drop start (set digits start (48 + n % 10))
    ≡ decimal n ++ drop (start + 1) digits
last_digit n start digits more fits within = rw (decimal_step n more fits, append_assoc, drop-set digits start (48 + n % 10) within) refl

-- and the first one
pub first_digit : (n start : ℕ) (digits : List ℕ) → n < 10 → start < length digits
    → drop start (set digits start (48 + n)) ≡ decimal n ++ drop (start + 1) digits
first_digit n start digits one within = rw (decimal_digit n one, drop-set digits start (48 + n) within) refl

pub ruleset appends = (append_assoc, length-append, cut_to_fits, decimal_digit, decimal_step, length_le_20)
