-- What the result of decoding says of the text.
use Rattle.std.proofs.Common.{◌≡◌, ℕ, ◌+◌, ◌*◌, ◌^◌, ◌<◌, ◌≤◌, ◌↔◌, Bool, false, List, [], ◌∷◌, ◌++◌, length, get_or, take, drop}
use Rattle.std.proofs.Common.{Result, Ok, Err, IsOk, IfErr, refl, sym, ap, ◌∙◌, subst, arith, inl, inr}
use Rattle.std.specs.List.{list_all}
use Rattle.std.proofs.lemmas.Bool.{cases_eq, cases_lt, cases_order, cond_both, ltb-true, leb-true, leb-false, eqb-true, eqb-false, lt-ltb, le-ltb, not-true, not-false, and_parts, and_left, false≢true}
use Rattle.std.proofs.lemmas.List.{take-append-drop, length-append, length-drop, nil_from_length}
use Rattle.std.proofs.lemmas.List.Sums.{prefix_len_passes, prefix_len_stops, AllPass-from_list_all, list_all-from_AllPass}
use Rattle.std.proofs.lemmas.List.Folds.{list_all-append}
use Rattle.std.proofs.lemmas.List.Elements.{All-nil, All-cons, All-append, All-drop, All-from_get_or}
use Rattle.base62.specs.declared.fault.DecodeError.{DecodeError}
use Rattle.base62.specs.declared.fault.DecodeError.TheVariants.{ArithmeticOverflow, EmptyInput, InvalidBase62Byte}
use Rattle.base62.specs.Alphabet.{IsAlphabet, AreLetters, is_letter, zero_letter}
use Rattle.base62.specs.Value.{value}
use Rattle.base62.specs.Canonical.{Denotes, IsCanonical}
use Rattle.base62.specs.Decoding.{decoding, leading_zeros, after_zeros, first_ten, invalid_index, first_invalid, IsFirstInvalid, NamesFirst, RefusesLarge, Decodes}
use Rattle.base62.specs.Laws.{AgreesAtLetters, AnswerTells, number_or_overflow, without_zeros}
use Rattle.base62.proofs.AlphabetLemmas.{IsLetter}
use Rattle.base62.proofs.ValueLemmas.{value-nil, value-append, value-one, value-lt_most}
use Rattle.base62.proofs.ZeroLemmas.{letters_from_after_zeros, value-after_zeros, after_zeros_some, after_zeros_first, zero_is_letter, zero_digit}
use Rattle.base62.proofs.LengthLemmas.{canonical_of_value}
use Rattle.base62.proofs.OverflowLemmas.{over_long, over_first, over_letters}

-- a list whose first part does not all pass does not all pass
not_all-take : (p : ℕ → Bool) (xs : List ℕ) (n : ℕ) → list_all p (take n xs) ≡ false
    → list_all p xs ≡ false
not_all-take p xs n bad =
    ap (list_all p) (sym (take-append-drop n xs)) ∙ list_all-append p (take n xs) (drop n xs) ∙ and_left (list_all p (take n xs)) (list_all p (drop n xs)) bad

-- what is true in each case of decoding, if that case applies, is true of the result
decoding_cases : (B text : List ℕ) (P : Result ℕ DecodeError → Type 0)
    → (length text ≡ 0 → P (Err EmptyInput))
    → (22 < length (after_zeros B text) → P (Err ArithmeticOverflow))
    → (list_all (is_letter B) (after_zeros B text) ≡ false → P (Err (first_invalid B text)))
    → (length (after_zeros B text) ≡ 22 → AreLetters B (first_ten B text) → 2 ^ 128 ≤ value B (first_ten B text) * 62 ^ 12 → P (Err ArithmeticOverflow))
    → (AreLetters B (after_zeros B text) → 2 ^ 128 ≤ value B (after_zeros B text) → P (Err ArithmeticOverflow))
    → (0 < length text → AreLetters B (after_zeros B text) → value B (after_zeros B text) < 2 ^ 128 → P (Ok (value B text)))
    → P (decoding B text)
unfolding decoding
decoding_cases B text P empty long bad first_over over fine =
    let r : List ℕ = after_zeros B text in
    let letters = AllPass-from_list_all (is_letter B) in
    cond_both _ _ _ P (λ t. empty (eqb-true _ _ t)) (λ f1.
    cond_both _ _ _ P (λ t. long (ltb-true _ _ t)) (λ f2.
    cond_both _ _ _ P (λ t. bad (not_all-take (is_letter B) r 10 (not-true _ t))) (λ f3.
    cond_both _ _ _ P (λ t. let both = and_parts _ _ t in first_over (eqb-true _ _ both.0) (letters (first_ten B text) (not-false _ f3)) (leb-true _ _ both.1)) (λ f4.
    cond_both _ _ _ P (λ t. bad (not-true _ t)) (λ f5.
    cond_both _ _ _ P (λ t. over (letters r (not-false _ f5)) (leb-true _ _ t)) (λ f6.
    fine (omega (arith, eqb-false (length text) 0 f1)) (letters r (not-false _ f5)) (leb-false _ _ f6)))))))

-- a text with a bad byte has a first one
pub first_invalid_is : (B text : List ℕ) (k : ℕ) → list_all (is_letter B) (drop k text) ≡ false
    → IsFirstInvalid B text (get_or text (invalid_index B text) 0) (invalid_index B text)
first_invalid_is B text k bad =
    let index = invalid_index B text in
    let before : (i : ℕ) → i < index → IsLetter B (get_or text i 0) = λ i h. prefix_len_passes (is_letter B) text i 0 h in
    let inside : index < length text = elim (cases_lt index (length text)) [
      | inl less ↦ less
      | inr all ↦
          let letters : AreLetters B text = All-from_get_or (IsLetter B) text 0 (λ i h. before i (omega arith)) in
          absurd (false≢true (sym bad ∙ list_all-from_AllPass (is_letter B) (drop k text) (All-drop (IsLetter B) k text letters)))
    ] in record {
      within = inside;
      byte_is = refl;
      no_letter = prefix_len_stops (is_letter B) text 0 inside;
      letters_before = before;
    }

-- an error that equals the one of the first bad byte has that byte and its index
pub first_invalid_named : (B text : List ℕ) (byte index b i : ℕ)
    → InvalidBase62Byte byte index ≡ InvalidBase62Byte b i → IsFirstInvalid B text byte index
    → IsFirstInvalid B text b i
first_invalid_named B text byte index b i is first =
    let byte_same : byte ≡ b = cc in
    let index_same : index ≡ i = cc in
    subst (λ x. IsFirstInvalid B text x i) byte_same (subst (IsFirstInvalid B text byte) index_same first)

-- a byte that is not a letter is not in a text of letters
no_letters : (B text : List ℕ) (byte index : ℕ) → IsFirstInvalid B text byte index
    → AreLetters B text → ⊥
no_letters B text byte index first letters =
    false≢true (sym first.no_letter ∙ ap (is_letter B) first.byte_is ∙ letters index 0 first.within)

-- a text has one first byte that is not a letter
same_invalid : (B text : List ℕ) (byte index b i : ℕ) → IsFirstInvalid B text byte index
    → IsFirstInvalid B text b i → InvalidBase62Byte byte index ≡ InvalidBase62Byte b i
same_invalid B text byte index b i p q = elim (cases_order index i) [
  | inl same ↦ let bytes : byte ≡ b = p.byte_is ∙ ap (λ k. get_or text k 0) same ∙ sym q.byte_is in cc
  | inr (inl less) ↦ absurd (false≢true (sym p.no_letter ∙ ap (is_letter B) p.byte_is ∙ q.letters_before index less))
  | inr (inr more) ↦ absurd (false≢true (sym q.no_letter ∙ ap (is_letter B) q.byte_is ∙ p.letters_before i more))
]

-- whatever letters stand in place of its bad bytes, the text denotes 2^128 or more, if it has more than
-- leading zeros and the first byte after those is a letter
abbrev MustOverflow : List ℕ → List ℕ → Type 0
MustOverflow B text = IsLetter B (get_or (after_zeros B text) 0 0) → (other : List ℕ) → AgreesAtLetters B text other → 2 ^ 128 ≤ value B other

module _ (B : List ℕ) (ok : IsAlphabet B) where
  -- what is true of each result, given what that result says of the text, is true of the result
  pub answer_cases : (text : List ℕ) (P : Result ℕ DecodeError → Type 0)
      → (length text ≡ 0 → P (Err EmptyInput))
      → (0 < length (after_zeros B text) → MustOverflow B text → P (Err ArithmeticOverflow))
      → ((byte index : ℕ) → IsFirstInvalid B text byte index → P (Err (InvalidBase62Byte byte index)))
      → (Denotes B text (value B text) → value B text < 2 ^ 128 → P (Ok (value B text)))
      → P (decoding B text)
  answer_cases text P empty over bad fine = decoding_cases B text P
      empty
      (λ long. over (omega arith) (λ letter other a. over_long B ok text other a long letter))
      (λ t. bad _ _ (first_invalid_is B text (leading_zeros B text) t))
      (λ full letters big. over (omega arith) (λ letter other a. over_first B ok text other a full letters big))
      (λ letters big. over (after_zeros_some B text (omega arith)) (λ letter other a. over_letters B ok text other a letters big))
      (λ some letters small. fine (record { nonempty = some; letters = letters_from_after_zeros B ok text letters; value_is = refl }) (omega (arith, value-after_zeros B ok text)))

  -- an accepted text is nonempty, has only letters, and denotes the result, a number below 2^128
  pub decoding_accepts : (text : List ℕ) (n : ℕ) → decoding B text ≡ Ok n
      → Denotes B text n × (n < 2 ^ 128)
  decoding_accepts text = answer_cases text (λ r. (n : ℕ) → r ≡ Ok n → Denotes B text n × (n < 2 ^ 128))
      (λ e n is. cc)
      (λ some over n is. cc)
      (λ byte index first n is. cc)
      (λ denotes small n is. let same : value B text ≡ n = cc in (subst (Denotes B text) same denotes, rw (← same) small))

  -- a nonempty text of letters is accepted if its value is below 2^128, and otherwise overflows
  decoding-letters : (text : List ℕ) → 0 < length text → AreLetters B text
      → decoding B text ≡ number_or_overflow (value B text)
  decoding-letters text some letters =
      let others : AreLetters B (after_zeros B text) = All-drop (IsLetter B) (leading_zeros B text) text letters in
      let itself : AgreesAtLetters B text text = record { size = refl; letters = letters; agrees = λ i h p. refl } in
      answer_cases text (λ r. r ≡ number_or_overflow (value B text))
      (λ e. absurd (omega arith))
      (λ more over. rw (le-ltb (value B text) (2 ^ 128) (over (others 0 0 more) text itself)))
      (λ byte index first. absurd (no_letters B text byte index first letters))
      (λ denotes small. rw (lt-ltb (value B text) (2 ^ 128) small))

  -- a text that denotes a number below 2^128 decodes to it
  pub decoding-denotes : (n : ℕ) → n < 2 ^ 128 → (text : List ℕ) → Denotes B text n
      → decoding B text ≡ Ok n
  decoding-denotes n small text d =
      decoding-letters text d.nonempty d.letters ∙ rw (d.value_is, lt-ltb n (2 ^ 128) small)

  -- and overflows if that is 2^128 or more
  pub refuses_large : (text : List ℕ) (result : Result ℕ DecodeError) → result ≡ decoding B text
      → RefusesLarge B text result
  refuses_large text result is letters large =
      let some : 0 < length text = elim (cases_eq (length text) 0) [
        | inl none ↦ let nothing : value B text ≡ 0 = ap (value B) (nil_from_length text none) ∙ value-nil B in absurd (omega (arith, nothing, large))
        | inr some ↦ omega arith
      ] in
      is ∙ decoding-letters text some letters ∙ rw (le-ltb (value B text) (2 ^ 128) large)

  -- so letters that overflow do denote so much
  pub overflow_large : (text : List ℕ) → AreLetters B text → decoding B text ≡ Err ArithmeticOverflow
      → 2 ^ 128 ≤ value B text
  overflow_large text letters =
      let others : AreLetters B (after_zeros B text) = All-drop (IsLetter B) (leading_zeros B text) text letters in
      let itself : AgreesAtLetters B text text = record { size = refl; letters = letters; agrees = λ i h p. refl } in
      answer_cases text (λ r. r ≡ Err ArithmeticOverflow → 2 ^ 128 ≤ value B text)
      (λ none e. cc)
      (λ more over e. over (others 0 0 more) text itself)
      (λ byte index first e. cc)
      (λ denotes small e. cc)

  -- an empty text has its own error
  decoding-empty : (text : List ℕ) → length text ≡ 0 → decoding B text ≡ Err EmptyInput
  decoding-empty text none = answer_cases text (λ r. r ≡ Err EmptyInput)
      (λ e. refl)
      (λ some over. absurd (omega (arith, length-drop (leading_zeros B text) text)))
      (λ byte index first. absurd (omega (arith, first.within)))
      (λ denotes small. absurd (omega (arith, denotes.nonempty)))

  -- 21 bytes cannot denote 2^128, so they do not overflow
  short_fits : (text : List ℕ) → length text ≤ 21 → decoding B text ≡ Err ArithmeticOverflow → ⊥
  short_fits text short =
      let rest : length (after_zeros B text) ≤ 21 = omega (arith, length-drop (leading_zeros B text) text) in
      decoding_cases B text (λ r. r ≡ Err ArithmeticOverflow → ⊥)
      (λ none e. cc)
      (λ long e. omega arith)
      (λ bad e. cc)
      (λ full letters big e. omega arith)
      (λ letters big e. let less = value-lt_most B ok (after_zeros B text) 21 rest in omega (arith, less))
      (λ some letters small e. cc)

  -- so their first byte that is not a letter is reported
  short_invalid : (text : List ℕ) (byte index : ℕ) → length text ≤ 21
      → IsFirstInvalid B text byte index → decoding B text ≡ Err (InvalidBase62Byte byte index)
  short_invalid text byte index short first =
      answer_cases text (λ r. (r ≡ Err ArithmeticOverflow → ⊥) → r ≡ Err (InvalidBase62Byte byte index))
      (λ none fits. absurd (omega (arith, first.within)))
      (λ some over fits. absurd (fits refl))
      (λ b i other fits. ap Err (same_invalid B text b i byte index other first))
      (λ denotes small fits. absurd (no_letters B text byte index first denotes.letters))
      (short_fits text short)

  -- an error has the first byte that is not a letter
  pub names_first : (text : List ℕ) → IfErr (decoding B text) (NamesFirst B text)
  names_first text = answer_cases text (λ r. IfErr r (NamesFirst B text)) (λ e. tt) (λ some over. tt) (λ byte index first. first) (λ denotes small. tt)

  -- all that the contract of `decode` says
  pub decodes : (text : List ℕ) (result : Result ℕ DecodeError) → result ≡ decoding B text
      → Decodes B text result
  decodes text result is = record {
    exact = is;
    large = refuses_large text result is;
    overflow = λ letters e. overflow_large text letters (sym is ∙ e);
    empty = λ none. is ∙ decoding-empty text none;
    named = rw is (names_first text);
    short = λ short e. short_fits text short (sym is ∙ e);
    short_named = λ byte index short first. is ∙ short_invalid text byte index short first;
  }

  -- one accepted text after another
  pub decoding-append : (a b : List ℕ) (m n : ℕ) → decoding B a ≡ Ok m → decoding B b ≡ Ok n
      → decoding B (a ++ b) ≡ number_or_overflow (m * 62 ^ length b + n)
  decoding-append a b m n p q =
      let front = (decoding_accepts a m p).0 in
      let back = (decoding_accepts b n q).0 in
      let letters : AreLetters B (a ++ b) = All-append (IsLetter B) a b front.letters back.letters in
      let sum : value B (a ++ b) ≡ m * 62 ^ length b + n = rw (value-append B a b, front.value_is, back.value_is) in
      decoding-letters (a ++ b) (omega (arith, length-append a b, front.nonempty)) letters ∙ ap number_or_overflow sum

  -- the one zero letter in place of a text of zeros is canonical
  zero_canonical : (text : List ℕ) (n : ℕ) → Denotes B text n → length (after_zeros B text) ≡ 0
      → IsCanonical B (zero_letter B ∷ []) n
  zero_canonical text n denotes none =
      let zero_value : value B text ≡ 0 = value-after_zeros B ok text ∙ ap (value B) (nil_from_length (after_zeros B text) none) ∙ value-nil B in
      let same : value B (zero_letter B ∷ []) ≡ n = value-one B (zero_letter B) ∙ zero_digit B ok ∙ sym zero_value ∙ denotes.value_is in
      let letters : AreLetters B (zero_letter B ∷ []) = All-cons (IsLetter B) (zero_letter B) [] (zero_is_letter B ok) (All-nil (IsLetter B)) in
      rw same at (canonical_of_value B ok (zero_letter B ∷ []) letters (omega arith, inl refl))

  -- what follows the leading zeros, if anything does, is canonical
  after_zeros_canonical : (text : List ℕ) (n : ℕ) → Denotes B text n
      → 0 < length (after_zeros B text) → IsCanonical B (after_zeros B text) n
  after_zeros_canonical text n denotes some =
      let r : List ℕ = after_zeros B text in
      let letters : AreLetters B r = All-drop (IsLetter B) (leading_zeros B text) text denotes.letters in
      let same : value B r ≡ n = sym (value-after_zeros B ok text) ∙ denotes.value_is in
      rw same at (canonical_of_value B ok r letters (some, inr (after_zeros_first B text some)))

  -- a text without its leading zeros is canonical
  pub without_zeros_canonical : (text : List ℕ) (n : ℕ) → Denotes B text n
      → IsCanonical B (without_zeros B text) n
  without_zeros_canonical text n denotes = cond_both _ _ _ (λ xs. IsCanonical B xs n)
      (λ t. zero_canonical text n denotes (eqb-true _ _ t))
      (λ f. after_zeros_canonical text n denotes (omega (arith, eqb-false (length (after_zeros B text)) 0 f)))

  -- which texts are accepted
  decoding_accepts_iff : (text : List ℕ)
      → (IsOk (decoding B text) ↔ ((0 < length text) × AreLetters B text × (value B text < 2 ^ 128)))
  decoding_accepts_iff text = (
    answer_cases text (λ r. IsOk r → (0 < length text) × AreLetters B text × (value B text < 2 ^ 128))
        (λ e is. cc)
        (λ some over is. cc)
        (λ byte index first is. cc)
        (λ denotes small is. (denotes.nonempty, denotes.letters, small)),
    λ h. rw (decoding-letters text h.0 h.1, lt-ltb (value B text) (2 ^ 128) h.2) refl,
  )

  -- all that a result says
  pub answer_tells : (text : List ℕ) → AnswerTells B text
  answer_tells text = record {
    decodes = decodes text (decoding B text) refl;
    accepted = decoding_accepts_iff text;
    value_is = λ n is. sym (decoding_accepts text n is).0.value_is;
    canonical = λ n is. without_zeros_canonical text n (decoding_accepts text n is).0;
    empty = answer_cases text (λ r. r ≡ Err EmptyInput → length text ≡ 0) (λ e is. e) (λ some over is. cc) (λ byte index first is. cc) (λ denotes small is. cc);
    named = answer_cases text (λ r. (byte index : ℕ) → r ≡ Err (InvalidBase62Byte byte index) → IsFirstInvalid B text byte index)
        (λ e b i is. cc)
        (λ some over b i is. cc)
        (λ byte index first b i is. first_invalid_named B text byte index b i (cc) first)
        (λ denotes small b i is. cc);
    overflow = answer_cases text (λ r. r ≡ Err ArithmeticOverflow → MustOverflow B text) (λ e is. cc) (λ some over is. over) (λ byte index first is. cc) (λ denotes small is. cc);
  }
