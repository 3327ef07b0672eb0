-- Texts over an alphabet whose letters ascend compare as the numbers that they denote.
use Rattle.std.proofs.Common.{Bool, true, Ordering, ◌≡◌, ◌↔◌, ℕ, ◌+◌, ◌-◌, ◌*◌, ◌^◌, ◌<◌, ◌≤◌, ltb, List, [], ◌∷◌, length, get_or, refl, sym, ap, ◌∙◌, subst, inl, inr, Some, arith}
use Rattle.std.specs.Prelude.{IsTrue}
use Rattle.std.specs.List.{range_with_len}
use Rattle.std.specs.Ordering.{is_le, nat_cmp, ordering_then, MatchOrdering}
use Rattle.std.specs.Cmp.{nat_cmp_is}
use Rattle.std.specs.Cmp.Lexicographic.{lists_agrees}
use Rattle.std.specs.declared.cmp.Ordering.TheVariants.{Less, Equal, Greater}
use Rattle.std.proofs.Math.Nat.{mul-le-mul_right}
use Rattle.std.proofs.lemmas.Bool.{cases_order, ltb-true}
use Rattle.std.proofs.lemmas.List.Elements.{All-head, All-tail}
use Rattle.std.proofs.lemmas.List.Sums.{AllPass-from_list_all}
use Rattle.std.proofs.lemmas.List.FromFn.{length-range_with_len, get_or-range_with_len}
use Rattle.std.proofs.lemmas.Map.Keys.{le_from_is_le, sorted_from_strictly_increasing, below_from_sorted}
use Rattle.base62.specs.Alphabet.{IsAlphabet, AreLetters, standard, is_letter}
use Rattle.base62.specs.Value.{value, digit_or_zero}
use Rattle.base62.specs.Canonical.{IsCanonical}
use Rattle.base62.specs.Fixed.{IsFixed}
use Rattle.base62.specs.Order.{lexicographic_order, partial_order, IsNotAfter, shortlex_order, Ascends, is_ascending}
use Rattle.base62.proofs.AlphabetLemmas.{IsLetter, letter-digit_of, digit_of-is, same_letter, alphabet_by_test, ascii_by_test}
use Rattle.base62.proofs.ValueLemmas.{value-cons, value-lt, value-lt_most}
use Rattle.base62.proofs.LengthLemmas.{no_leading_zero, needs_each}

-- the letter at a place is a lesser byte than the one after it
abbrev rises : List ℕ → ℕ → Bool
rises B d = ltb (get_or B d 0) (get_or B (d + 1) 0)

-- letters that pass the test ascend
pub ascends_by_test : (B : List ℕ) → is_ascending B ≡ true → Ascends B
ascends_by_test B test d h =
    let places = range_with_len 0 61 in
    let at = AllPass-from_list_all (rises B) places test d 0 (rw length-range_with_len h) in
    let place : get_or places d 0 ≡ d = get_or-range_with_len 0 61 d 0 h ∙ omega arith in
    ltb-true _ _ (subst (λ k. rises B k ≡ true) place at)

-- what the tests of literal letters show
pub ruleset letters_by_test = (alphabet_by_test, ascends_by_test, ascii_by_test)

-- the standard letters ascend by byte
pub standard_ascends : Ascends standard
unfolding standard
standard_ascends = ascends_by_test standard refl

-- the result of comparing two numbers
compared : (m n : ℕ) (answer : Ordering) → MatchOrdering answer (m < n) (m ≡ n) (n < m)
    → nat_cmp m n ≡ answer
compared m n answer h = sym (nat_cmp_is m n answer h)

-- two numbers compare as two others in the same relation
compared_alike : (x y m n : ℕ) → (x < y → m < n) → (x ≡ y → m ≡ n) → (y < x → n < m)
    → nat_cmp m n ≡ nat_cmp x y
compared_alike x y m n less equal greater = elim (cases_order x y) [
  | inl e ↦ compared m n Equal (equal e) ∙ sym (compared x y Equal e)
  | inr (inl h) ↦ compared m n Less (less h) ∙ sym (compared x y Less h)
  | inr (inr h) ↦ compared m n Greater (greater h) ∙ sym (compared x y Greater h)
]

-- one more at a first place outweighs all that can come after it
place-lt : (x u y v w : ℕ) → x < y → u < w → x * w + u < y * w + v
place-lt x u y v w more below = let weighs : (x + 1) * w ≤ y * w = mul-le-mul_right w (omega arith) in omega arith

-- first places decide, and if they are one, what comes after them
pub place_compares : (x u y v w : ℕ) → u < w → v < w
    → nat_cmp (x * w + u) (y * w + v) ≡ ordering_then (nat_cmp x y) (nat_cmp u v)
place_compares x u y v w p q = elim (cases_order x y) [
  | inl e ↦ rw (compared x y Equal e, e) (compared_alike u v (y * w + u) (y * w + v) (λ h. omega arith) (λ h. omega arith) (λ h. omega arith))
  | inr (inl h) ↦ rw (compared x y Less h) (compared _ _ Less (place-lt x u y v w h p))
  | inr (inr h) ↦ rw (compared x y Greater h) (compared _ _ Greater (place-lt y v x u w h q))
]

-- one number is at most another exactly if they compare so
at_most_iff : (m n : ℕ) → (IsTrue (is_le (nat_cmp m n)) ↔ (m ≤ n))
at_most_iff m n = (
  le_from_is_le m n,
  λ h. elim (cases_order m n) [
    | inl e ↦ ap is_le (compared m n Equal e)
    | inr (inl less) ↦ ap is_le (compared m n Less less)
    | inr (inr more) ↦ absurd (omega arith)
  ],
)

module _ (B : List ℕ) (ok : IsAlphabet B) where
  -- the shorter of two canonical texts has the smaller number
  shorter-lt : (a b : List ℕ) (m n : ℕ) → IsCanonical B a m → IsCanonical B b n
      → length a < length b → m < n
  shorter-lt a b m n p q less = elim (needs_each B ok b q.denotes.letters (no_leading_zero B ok b n q)) [
    | inl one ↦ absurd (omega (arith, p.denotes.nonempty))
    | inr weighs ↦ let below = value-lt_most B ok a (length b - 1) (omega arith) in omega (arith, p.denotes.value_is, q.denotes.value_is)
  ]

  module _ (up : Ascends B) where
    -- a later letter of an alphabet that ascends is a greater byte
    later_greater : (i j : ℕ) → i < j → j < 62 → get_or B i 0 < get_or B j 0
    later_greater i j more inside =
        below_from_sorted B i j 0 (sorted_from_strictly_increasing B (λ d h. up d (omega (arith, ok.size)))) more (omega (arith, ok.size))

    -- a letter of a greater digit is a greater byte
    greater_letter : (x y : ℕ) → is_letter B x ≡ true → is_letter B y ≡ true
        → digit_or_zero B x < digit_or_zero B y → x < y
    greater_letter x y p q more =
        let at = letter-digit_of B x _ (digit_of-is B x p) in
        let bt = letter-digit_of B y _ (digit_of-is B y q) in
        let less = later_greater (digit_or_zero B x) (digit_or_zero B y) more (omega (arith, bt.0, ok.size)) in
        omega (arith, at.1, bt.1)

    -- letters compare as their digits
    letters_compare : (x y : ℕ) → is_letter B x ≡ true → is_letter B y ≡ true
        → nat_cmp x y ≡ nat_cmp (digit_or_zero B x) (digit_or_zero B y)
    letters_compare x y p q =
        compared_alike (digit_or_zero B x) (digit_or_zero B y) x y (greater_letter x y p q) (same_letter B x y p q) (greater_letter y x q p)

    -- texts of one length compare in lexicographic order as their values
    pub texts_compare : (a b : List ℕ) → AreLetters B a → AreLetters B b → length a ≡ length b
        → lexicographic_order a b ≡ nat_cmp (value B a) (value B b)
    texts_compare [] [] p q len = sym (compared (value B []) (value B []) Equal refl)
    texts_compare [] (y ∷ ys) p q len = absurd (omega arith)
    texts_compare (x ∷ xs) [] p q len = absurd (omega arith)
    texts_compare (x ∷ xs) (y ∷ ys) p q len =
        let tails : length xs ≡ length ys = omega arith in
        let first = letters_compare x y (All-head (IsLetter B) x xs p) (All-head (IsLetter B) y ys q) in
        let later = texts_compare xs ys (All-tail (IsLetter B) x xs p) (All-tail (IsLetter B) y ys q) tails in
        let places = place_compares (digit_or_zero B x) (value B xs) (digit_or_zero B y) (value B ys) (62 ^ length xs) (value-lt B ok xs) (rw tails (value-lt B ok ys)) in
        rw (value-cons B x xs, value-cons B y ys, ← tails, places, first, later)

    -- texts of w letters compare in lexicographic order as their numbers
    pub fixed_compare : (w : ℕ) (a b : List ℕ) (m n : ℕ) → IsFixed B w a m → IsFixed B w b n
        → lexicographic_order a b ≡ nat_cmp m n
    fixed_compare w a b m n p q =
        rw (p.denotes.value_is, q.denotes.value_is) at (texts_compare a b p.denotes.letters q.denotes.letters (p.size ∙ sym q.size))

    -- and so they do by `<`
    pub fixed_compare_partly : (w : ℕ) (a b : List ℕ) (m n : ℕ) → IsFixed B w a m → IsFixed B w b n
        → partial_order a b ≡ Some (nat_cmp m n)
    fixed_compare_partly w a b m n p q =
        lists_agrees {R = nat_cmp} (λ x y. refl) a b ∙ ap Some (fixed_compare w a b m n p q)

    -- canonical texts compare in shortlex order as their numbers
    pub canonical_compare : (a b : List ℕ) (m n : ℕ) → IsCanonical B a m → IsCanonical B b n
        → shortlex_order a b ≡ nat_cmp m n
    canonical_compare a b m n p q = elim (cases_order (length a) (length b)) [
      | inl e ↦ rw (compared (length a) (length b) Equal e) (rw (p.denotes.value_is, q.denotes.value_is) at (texts_compare a b p.denotes.letters q.denotes.letters e))
      | inr (inl h) ↦ rw (compared (length a) (length b) Less h) (sym (compared m n Less (shorter-lt a b m n p q h)))
      | inr (inr h) ↦ rw (compared (length a) (length b) Greater h) (sym (compared m n Greater (shorter-lt b a n m q p h)))
    ]

    -- one is before another, or is the same, exactly if its number is at most the other's
    pub not_after_iff : (w : ℕ) (a b : List ℕ) (m n : ℕ) → IsFixed B w a m → IsFixed B w b n
        → (IsNotAfter a b ↔ (m ≤ n))
    not_after_iff w a b m n p q = rw (fixed_compare w a b m n p q) (at_most_iff m n)

pub ruleset texts_in_order = (standard_ascends, texts_compare, fixed_compare, fixed_compare_partly, canonical_compare)
