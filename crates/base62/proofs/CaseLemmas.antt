-- Exchange of case turns the alternative alphabet into the standard one.
use Rattle.std.proofs.Common.{◌≡◌, ℕ, ◌<◌, ◌≤◌, ◌==◌, ◌&&◌, ◌||◌, Bool, true, false, leb, List, [], ◌∷◌, length, get_or, map, take, drop}
use Rattle.std.proofs.Common.{Option, Some, None, is_some, unwrap_or, refl, sym, ap, ◌∙◌, subst, inl, inr, arith}
use Rattle.std.proofs.Math.Path.{fun_ext}
use Rattle.std.specs.List.{prefix_len, list_all}
use Rattle.std.specs.Str.{IsAscii}
use Rattle.std.proofs.lemmas.Bool.{cases_lt, lt-leb, and_right, eqb-true}
use Rattle.std.proofs.Math.ListN.{get_or-map}
use Rattle.std.proofs.lemmas.List.{length-map, take-map, drop-map, get_or_past}
use Rattle.std.proofs.lemmas.List.Sums.{AllPass-from_list_all, list_all-from_AllPass, prefix_len_stops}
use Rattle.std.proofs.lemmas.List.Folds.{list_all-map}
use Rattle.std.proofs.lemmas.Simd.{map-map}
use Rattle.base62.specs.Alphabet.{AreLetters, standard, alternative, digit_of, is_letter, zero_letter}
use Rattle.base62.specs.Places.{sum_over_places}
use Rattle.base62.specs.Value.{value, digit_or_zero}
use Rattle.base62.specs.Canonical.{Denotes, IsCanonical}
use Rattle.base62.specs.Decoding.{decoding, leading_zeros, after_zeros, invalid_index, first_invalid}
use Rattle.base62.specs.Case.{other_case, exchange_case}
use Rattle.base62.proofs.ComputedLemmas.{same_on_range}
use Rattle.base62.proofs.AlphabetLemmas.{letter-digit_of, standard_is_ascii, alternative_is_ascii}

-- only letters of ASCII have another case
other_case-past : (b : ℕ) → 128 ≤ b → other_case b ≡ b
unfolding other_case
other_case-past b h =
    let first : (leb 65 b && leb b 90) ≡ false = and_right _ _ (lt-leb b 90 (omega arith)) in
    let second : (leb 97 b && leb b 122) ≡ false = and_right _ _ (lt-leb b 122 (omega arith)) in
    rw (first, second)

other_case_twice : (b : ℕ) → other_case (other_case b) ≡ b
unfolding other_case
other_case_twice b = elim (cases_lt b 128) [
  | inl less ↦ same_on_range (λ b. other_case (other_case b)) (λ b. b) 0 128 refl b (omega arith) less
  | inr more ↦ ap other_case (other_case-past b more) ∙ other_case-past b more
]

exchange_case_twice : (text : List ℕ) → exchange_case (exchange_case text) ≡ text
exchange_case_twice [] = refl
exchange_case_twice (b ∷ text) = rw (other_case_twice b, exchange_case_twice text)

-- over an alphabet of ASCII bytes another byte has no digit
none_above : (B : List ℕ) → IsAscii B → (b : ℕ) → 128 ≤ b → (o : Option ℕ) → digit_of B b ≡ o
    → o ≡ None
none_above B ascii b h None e = refl
none_above B ascii b h (Some d) e =
    let at = letter-digit_of B b d e in
    let below : b < 128 = subst (λ l. l < 128) at.1 (ascii d) in absurd (omega arith)

-- a byte has the digit in A that it has in B with its case exchanged
abbrev Exchanges : List ℕ → List ℕ → Type 0
Exchanges A B = (b : ℕ) → digit_of A b ≡ digit_of B (other_case b)

digit_in_standard : Exchanges alternative standard
unfolding standard alternative digit_of other_case
digit_in_standard b = elim (cases_lt b 128) [
  | inl less ↦ same_on_range (digit_of alternative) (λ b. digit_of standard (other_case b)) 0 128 refl b (omega arith) less
  | inr more ↦
      let none = none_above standard standard_is_ascii b more (digit_of standard b) refl in
      none_above alternative alternative_is_ascii b more (digit_of alternative b) refl
      ∙ sym (ap (digit_of standard) (other_case-past b more) ∙ none)
]

digit_in_alternative : Exchanges standard alternative
digit_in_alternative b = sym (digit_in_standard (other_case b) ∙ ap (digit_of standard) (other_case_twice b))

-- how many elements pass a test from the first on, before and after they are changed
prefix_len-changed : (p q : ℕ → Bool) (f : ℕ → ℕ) → ((x : ℕ) → p x ≡ q (f x)) → (xs : List ℕ)
    → prefix_len p xs ≡ prefix_len q (map f xs)
prefix_len-changed p q f same [] = refl
prefix_len-changed p q f same (x ∷ xs) = rw (same x, prefix_len-changed p q f same xs)

module _ (A B : List ℕ) (same : Exchanges A B) where
  letter_exchanged : (b : ℕ) → is_letter A b ≡ is_letter B (other_case b)
  letter_exchanged b = ap is_some (same b)

  all_exchanged : (text : List ℕ)
      → list_all (is_letter A) text ≡ list_all (is_letter B) (exchange_case text)
  all_exchanged text = ap (λ p. list_all p text) (fun_ext letter_exchanged) ∙ sym (list_all-map (is_letter B) other_case text)

  -- a text has the value of the exchanged one
  value_exchanged : (text : List ℕ) → value A text ≡ value B (exchange_case text)
  unfolding value
  value_exchanged text =
      let digits : digit_or_zero A ≡ (λ b. digit_or_zero B (other_case b)) = fun_ext (λ b. ap (λ o. unwrap_or o 0) (same b)) in
      ap (λ f. sum_over_places 62 (map f text)) digits ∙ sym (ap (sum_over_places 62) (map-map (digit_or_zero B) other_case text))

  -- letters are letters of the other alphabet, exchanged
  letters_exchanged : (text : List ℕ) → AreLetters A text → AreLetters B (exchange_case text)
  letters_exchanged text letters =
      AllPass-from_list_all (is_letter B) (exchange_case text) (sym (all_exchanged text) ∙ list_all-from_AllPass (is_letter A) text letters)

  denotes_exchanged : (text : List ℕ) (n : ℕ) → Denotes A text n → Denotes B (exchange_case text) n
  denotes_exchanged text n d = record {
    nonempty = rw length-map d.nonempty;
    letters = letters_exchanged text d.letters;
    value_is = sym (value_exchanged text) ∙ d.value_is;
  }

-- so canonical texts are those of the other alphabet, exchanged
canonical_exchanged : (A B : List ℕ) → Exchanges A B → Exchanges B A → (text : List ℕ) (n : ℕ)
    → IsCanonical A text n → IsCanonical B (exchange_case text) n
canonical_exchanged A B same back text n canonical = record {
  denotes = denotes_exchanged A B same text n canonical.denotes;
  shortest = λ other d. rw length-map (rw length-map at (canonical.shortest (exchange_case other) (denotes_exchanged B A back other n d)));
}

pub canonical_in_alternative : (text : List ℕ) (n : ℕ) → IsCanonical standard text n
    → IsCanonical alternative (exchange_case text) n
canonical_in_alternative text n canonical = canonical_exchanged standard alternative digit_in_alternative digit_in_standard text n canonical

pub canonical_in_standard : (text : List ℕ) (n : ℕ)
    → IsCanonical alternative (exchange_case text) n → IsCanonical standard text n
canonical_in_standard text n canonical =
    rw exchange_case_twice at (canonical_exchanged alternative standard digit_in_standard digit_in_alternative (exchange_case text) n canonical)

pub canonical_of_alternative : (text : List ℕ) (n : ℕ) → IsCanonical alternative text n
    → IsCanonical standard (exchange_case text) n
canonical_of_alternative text n canonical = canonical_exchanged alternative standard digit_in_standard digit_in_alternative text n canonical

-- a byte is the zero letter if the exchanged one is, since both alphabets have the digit 0, which has no case
zero_exchanged : (b : ℕ) → (b == zero_letter alternative) ≡ (other_case b == zero_letter standard)
unfolding standard alternative other_case
zero_exchanged b = elim (cases_lt b 128) [
  | inl less ↦ same_on_range (λ b. b == zero_letter alternative) (λ b. other_case b == zero_letter standard) 0 128 refl b (omega arith) less
  | inr more ↦ ap (λ k. k == zero_letter standard) (sym (other_case-past b more))
]

zeros_exchanged : (text : List ℕ)
    → leading_zeros alternative text ≡ leading_zeros standard (exchange_case text)
zeros_exchanged text = prefix_len-changed (λ b. b == zero_letter alternative) (λ b. b == zero_letter standard) other_case zero_exchanged text

after_zeros_exchanged : (text : List ℕ)
    → exchange_case (after_zeros alternative text) ≡ after_zeros standard (exchange_case text)
after_zeros_exchanged text = sym (drop-map other_case (leading_zeros alternative text) text) ∙ ap (λ z. drop z (exchange_case text)) (zeros_exchanged text)

-- a byte that is not a letter has no other case
stays : (b : ℕ) → is_letter alternative b ≡ false → other_case b ≡ b
unfolding alternative digit_of other_case
stays b bad = elim (cases_lt b 128) [
  | inl less ↦ eqb-true _ _ (rw bad at (same_on_range (λ b. is_letter alternative b || other_case b == b) (λ b. true) 0 128 refl b (omega arith) less))
  | inr more ↦ other_case-past b more
]

-- a byte at an index, after the exchange; past the end it is 0, which is unchanged
at_exchanged : (text : List ℕ) (i : ℕ)
    → get_or (exchange_case text) i 0 ≡ other_case (get_or text i 0)
unfolding other_case
at_exchanged text i = get_or-map other_case text i 0

no_letter_past : is_letter alternative 0 ≡ false
unfolding alternative digit_of
no_letter_past = refl

-- the byte after the leading letters is not a letter
bad_or_past : (text : List ℕ)
    → is_letter alternative (get_or text (invalid_index alternative text) 0) ≡ false
bad_or_past text =
    let i = invalid_index alternative text in
    elim (cases_lt i (length text)) [
      | inl less ↦ prefix_len_stops (is_letter alternative) text 0 less
      | inr more ↦ ap (is_letter alternative) (get_or_past text i 0 more) ∙ no_letter_past
    ]

-- so the first bad byte is the same
first_invalid_exchanged : (text : List ℕ)
    → first_invalid alternative text ≡ first_invalid standard (exchange_case text)
first_invalid_exchanged text =
    let i = invalid_index alternative text in
    let place : i ≡ invalid_index standard (exchange_case text) =
    prefix_len-changed (is_letter alternative) (is_letter standard) other_case (letter_exchanged alternative standard digit_in_standard) text in
    let byte : get_or (exchange_case text) i 0 ≡ get_or text i 0 = at_exchanged text i ∙ stays (get_or text i 0) (bad_or_past text) in
    rw (← place, byte)

-- decoding has the same result, since each of its tests has
pub decoding_exchanged : (text : List ℕ)
    → decoding alternative text ≡ decoding standard (exchange_case text)
unfolding decoding
decoding_exchanged text =
    let r : List ℕ = after_zeros alternative text in
    let values = value_exchanged alternative standard digit_in_standard in
    let all = all_exchanged alternative standard digit_in_standard in
    rw (← after_zeros_exchanged text, length-map text other_case, length-map r other_case, take-map other_case 10 r)
    (rw (← all (take 10 r), ← all r, ← values (take 10 r), ← values r, ← values text, ← first_invalid_exchanged text))
