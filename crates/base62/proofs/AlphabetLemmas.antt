-- The digits of letters.
use Rattle.std.proofs.Common.{◌≡◌, ℕ, ◌<◌, ◌≤◌, Bool, true, eqb, ltb, List, length, get_or, Option, Some, None, is_some, unwrap_or, refl, inl, inr, sym, ap, ◌∙◌, arith, eq-eqb}
use Rattle.std.specs.List.{position_or_len, list_all, All, IsDistinct}
use Rattle.std.proofs.lemmas.Bool.{ne_eqb, eqb-true, eqb-false, lt-ltb, ltb-true, cases_order}
use Rattle.std.proofs.lemmas.List.Quantifiers.{position-Some}
use Rattle.std.proofs.lemmas.List.Sums.{position_or_len_is, AllPass-from_list_all}
use Rattle.std.proofs.lemmas.List.Elements.{All-weaker}
use Rattle.std.proofs.lemmas.Cmp.{nat_eq_equiv}
use Rattle.std.proofs.lemmas.Map.Keys.{apart_from_distinct}
use Rattle.std.proofs.lemmas.Map.Made.{IsDistinct-from_count}
use Rattle.std.specs.Cmp.{first_so, second_so}
use Rattle.std.specs.Prelude.{nat_eq}
use Rattle.std.specs.Set.{distinct_count}
use Rattle.std.specs.Str.{IsAscii}
use Rattle.std.proofs.lemmas.Str.Ascii.{IsAscii-from_all}
use Rattle.base62.specs.Alphabet.{IsAlphabet, is_alphabet, is_ascii, standard, alternative, digit_of, is_letter}
use Rattle.base62.specs.Value.{digit_or_zero}

abbrev pub IsLetter : List ℕ → ℕ → Type 0
IsLetter B b = is_letter B b ≡ true

-- a byte that has digit d is the letter at place d
pub letter-digit_of : (B : List ℕ) (b d : ℕ) → digit_of B b ≡ Some d
    → (d < length B) × (get_or B d 0 ≡ b)
unfolding digit_of
letter-digit_of B b d e =
    let at = position-Some (λ l. eqb l b) B d 0 e in (at.0, eqb-true _ _ at.1)

-- a letter has its digit
pub digit_of-is : (B : List ℕ) (b : ℕ) → IsLetter B b → digit_of B b ≡ Some (digit_or_zero B b)
digit_of-is B b = elim (digit_of B b) as (λ o. is_some o ≡ true → o ≡ Some (unwrap_or o 0)) [
  | None ↦ λ h. cc
  | Some d ↦ λ h. refl
]

-- what each digit is below, the 0 in place of none is too
bounded : (o : Option ℕ) → ((d : ℕ) → o ≡ Some d → d < 62) → unwrap_or o 0 < 62
bounded None h = omega arith
bounded (Some d) h = h d refl

module _ (B : List ℕ) (ok : IsAlphabet B) where
  -- the letter at place d has digit d
  pub digit_of-letter : (d : ℕ) → d < 62 → digit_of B (get_or B d 0) ≡ Some d
  unfolding digit_of
  digit_of-letter d h =
      let test : ℕ → Bool = λ l. eqb l (get_or B d 0) in
      let inside : d ≤ length B = omega (arith, ok.size) in
      let before = λ (k : ℕ) (below : k < d). ne_eqb (get_or B k 0) (get_or B d 0) (λ e. let same : k ≡ d = ok.distinct k d (omega arith) h e in omega arith) in
      let place : position_or_len test B ≡ d = position_or_len_is test B d 0 inside before (λ _. eq-eqb _ _ refl) in
      let found : ltb d (length B) ≡ true = lt-ltb d (length B) (omega (arith, ok.size)) in
      rw (place, found)

  -- so it is a letter, and its digit is the place
  pub is_letter-letter : (d : ℕ) → d < 62 → IsLetter B (get_or B d 0)
  is_letter-letter d h = ap is_some (digit_of-letter d h)

  pub digit_or_zero-letter : (d : ℕ) → d < 62 → digit_or_zero B (get_or B d 0) ≡ d
  digit_or_zero-letter d h = ap (λ o. unwrap_or o 0) (digit_of-letter d h)

  -- a digit is below 62
  pub digit_or_zero-lt : (b : ℕ) → digit_or_zero B b < 62
  digit_or_zero-lt b = bounded (digit_of B b) (λ d e. let at = letter-digit_of B b d e in omega (arith, at.0, ok.size))

-- two letters of one digit are one
pub same_letter : (B : List ℕ) (a b : ℕ) → IsLetter B a → IsLetter B b
    → digit_or_zero B a ≡ digit_or_zero B b → a ≡ b
same_letter B a b p q e =
    let at = letter-digit_of B a _ (digit_of-is B a p) in
    let bt = letter-digit_of B b _ (digit_of-is B b q) in
    sym at.1 ∙ ap (λ d. get_or B d 0) e ∙ bt.1

-- the test that each byte is below k, as a fact
all_below : (k : ℕ) (B : List ℕ) → list_all (λ b. ltb b k) B ≡ true → All (λ b. b < k) B
all_below k B h = All-weaker (λ b. ltb b k ≡ true) (λ b. b < k) (λ b below. ltb-true b k below) B (AllPass-from_list_all (λ b. ltb b k) B h)

-- letters that pass the test are an alphabet
pub alphabet_by_test : (B : List ℕ) → is_alphabet B ≡ true → IsAlphabet B
alphabet_by_test B test =
    let counts = first_so _ _ test in
    let size : length B ≡ 62 = eqb-true _ _ (first_so _ _ counts) in
    let count : distinct_count nat_eq B ≡ 62 = eqb-true _ _ (second_so _ _ counts) in
    let apart : IsDistinct nat_eq B = IsDistinct-from_count nat_eq_equiv B (count ∙ sym size) in
    let differ = λ (i j : ℕ) (less : i < j) (inside : j < 62). eqb-false _ _ (apart_from_distinct nat_eq B i j 0 apart less (rw size inside)) in
    record {
      size = size;
      bytes = all_below 256 B (second_so _ _ test);
      distinct = λ i j p q e. elim (cases_order i j) [
        | inl same ↦ same
        | inr (inl less) ↦ absurd (differ i j less q e)
        | inr (inr more) ↦ absurd (differ j i more p (sym e))
      ];
    }

-- letters that pass the other test are ASCII
pub ascii_by_test : (B : List ℕ) → is_ascii B ≡ true → IsAscii B
ascii_by_test B test = IsAscii-from_all B (all_below 128 B test)

-- the two built-in alphabets are alphabets, of ASCII bytes
pub standard_is_alphabet : IsAlphabet standard
unfolding standard
standard_is_alphabet = alphabet_by_test standard refl

pub alternative_is_alphabet : IsAlphabet alternative
unfolding alternative
alternative_is_alphabet = alphabet_by_test alternative refl

pub standard_is_ascii : IsAscii standard
unfolding standard
standard_is_ascii = ascii_by_test standard refl

pub alternative_is_ascii : IsAscii alternative
unfolding alternative
alternative_is_ascii = ascii_by_test alternative refl
