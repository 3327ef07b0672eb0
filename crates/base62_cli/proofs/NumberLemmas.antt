-- The number that decimal digits denote, as std reads it.
use Rattle.std.proofs.Common.{◌≡◌, ◌≢◌, ℕ, ◌+◌, ◌-◌, ◌*◌, ◌^◌, ◌<◌, Bool, true, false, List, [], ◌∷◌, map, length, get_or, Some, None, Result, Ok, Err, if◌then◌else◌, refl, sym, ap, ◌∙◌, arith}
use Rattle.std.specs.Prelude.{nat_eq, codes}
use Rattle.std.specs.List.{starts_with}
use Rattle.std.specs.Result.{OkIff, result_ok}
use Rattle.std.specs.Str.{all_ascii_digits}
use Rattle.std.proofs.lemmas.Bool.{true≢false, false≢true, ltb-true, lt-ltb, eqb-true, and_parts, false_from_ne_true}
use Rattle.std.proofs.lemmas.List.{length-map}
use Rattle.std.proofs.lemmas.Str.Parse.{IsNumeralModel, WeighsDigits, numerals_by_weight, tells_all_ascii_digits}
use Rattle.base62.specs.Places.{sum_over_places}
use Rattle.base62_cli.specs.Reply.{decimal_value, is_number}

-- the texts of digits, and what they denote, by the law of sums over places
module _ (none : (base : ℕ) → sum_over_places base [] ≡ 0)
    (front : (base digit : ℕ) (digits : List ℕ) → sum_over_places base (digit ∷ digits) ≡ digit * base ^ length digits + sum_over_places base digits) where
  -- a digit before others adds its place
  weighs : WeighsDigits decimal_value
  unfolding decimal_value
  weighs = record {
    empty = none 10;
    more = λ c cs _. front 10 (c - 48) (map (λ b. b - 48) cs) ∙ ap (λ k. (c - 48) * 10 ^ k + decimal_value cs) (length-map cs (λ b. b - 48));
  }

  pub numerals : IsNumeralModel (λ text. all_ascii_digits text ≡ true) decimal_value
  numerals = numerals_by_weight _ tells_all_ascii_digits decimal_value weighs

-- what a number is made of
pub number_parts : (text : List ℕ) → is_number text ≡ true
    → (0 < length text) × (all_ascii_digits text ≡ true) × (decimal_value text < 2 ^ 128)
unfolding is_number
number_parts text e =
    let parts = and_parts _ _ e in
    let front = and_parts _ _ parts.0 in (ltb-true 0 (length text) front.0, front.1, ltb-true (decimal_value text) (2 ^ 128) parts.1)

-- a leading plus sign, which std takes
abbrev pub has_plus : List ℕ → Bool
has_plus text = starts_with nat_eq text (codes "+")

pub plus_no_number : (text : List ℕ) → has_plus text ≡ true → is_number text ≢ true
plus_no_number [] plus e = absurd (omega (arith, (number_parts [] e).0))
plus_no_number (c ∷ cs) plus e =
    let same = eqb-true 43 c (and_parts _ _ plus).0 in
    let digits = (number_parts (c ∷ cs) e).1 in
    false≢true (rw (sym same) at digits)

pub no_plus : (text : List ℕ) → has_plus text ≡ false → get_or text 0 0 ≢ 43
no_plus [] none e = absurd (omega arith)
no_plus (c ∷ cs) none e = true≢false (rw e at none)

-- what `number_of` answers if the text is a number, and if it is none
pub the_number : (text : List ℕ) (n : ℕ) → all_ascii_digits text ≡ true → 0 < length text
    → decimal_value text < 2 ^ 128 → n ≡ decimal_value text
    → Some n ≡ (if is_number text then Some (decimal_value text) else None)
unfolding is_number
the_number text n digits some small is = rw (digits, lt-ltb 0 (length text) some, lt-ltb (decimal_value text) (2 ^ 128) small) (ap Some is)

pub no_number : (text : List ℕ) → is_number text ≢ true
    → None ≡ (if is_number text then Some (decimal_value text) else None)
no_number text none = rw (false_from_ne_true (is_number text) none) refl

-- what std parses of a text with no leading plus sign
pub parsed_number : {E : Type 0} (text : List ℕ) (r : Result ℕ E)
    → OkIff r ((all_ascii_digits text ≡ true) × (0 < length text) × (decimal_value text < 2 ^ 128))
    (decimal_value text)
    → result_ok r ≡ (if is_number text then Some (decimal_value text) else None)
parsed_number text (Ok n) h = the_number text n h.0.0 h.0.1 h.0.2 h.1
parsed_number text (Err e) h = no_number text (λ is. let parts = number_parts text is in h (parts.1, parts.0, parts.2))
