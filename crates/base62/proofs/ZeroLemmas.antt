-- Zero letters before a text.
use Rattle.std.proofs.Common.{◌≡◌, ◌≢◌, ℕ, zero, suc, ◌+◌, ◌<◌, ◌≤◌, ◌==◌, Bool, true, false, List, ◌∷◌, length, get_or, take, drop}
use Rattle.std.proofs.Common.{Result, if◌then◌else◌, refl, sym, ap, ◌∙◌, subst, inl, inr, add-one, arith}
use Rattle.std.proofs.lemmas.Bool.{cases_eq, eq-eqb, ne_eqb, eqb-true, eqb-false}
use Rattle.std.proofs.lemmas.List.{get_or-drop, get_or-take, length-drop, length-take-le, nil_from_length, take-append-drop}
use Rattle.std.proofs.lemmas.List.Sums.{prefix_len_passes, prefix_len_stops, prefix_len-le-length}
use Rattle.std.proofs.lemmas.List.Elements.{All-append, All-from_get_or}
use Rattle.base62.specs.declared.fault.DecodeError.{DecodeError}
use Rattle.base62.specs.declared.fault.DecodeError.TheVariants.{InvalidBase62Byte}
use Rattle.base62.specs.Alphabet.{IsAlphabet, AreLetters, is_letter, zero_letter}
use Rattle.base62.specs.Value.{value, digit_or_zero}
use Rattle.base62.specs.Decoding.{decoding, leading_zeros, after_zeros, invalid_index, first_invalid}
use Rattle.base62.specs.Laws.{one_place_on}
use Rattle.base62.proofs.AlphabetLemmas.{IsLetter, is_letter-letter, digit_or_zero-letter}
use Rattle.base62.proofs.ValueLemmas.{value-nil, value-cons, value-cut, value_more}

-- each byte of the leading zeros is the zero letter
pub zero_before : (B text : List ℕ) (k : ℕ) → k < leading_zeros B text → get_or text k 0 ≡ zero_letter B
zero_before B text k h = eqb-true _ _ (prefix_len_passes (λ b. b == zero_letter B) text k 0 h)

-- a text that begins with the zero letter has leading zeros
pub zeros_some : (B text : List ℕ) → 0 < length text → get_or text 0 0 ≡ zero_letter B → 0 < leading_zeros B text
zeros_some B text some first = elim (cases_eq (leading_zeros B text) 0) [
  | inl none ↦
      let stops = prefix_len_stops (λ b. b == zero_letter B) text 0 (omega (arith, none, some)) in
      absurd (eqb-false _ _ (rw none at stops) first)
  | inr more ↦ omega (arith, more)
]

pub zeros_within : (B text : List ℕ) → leading_zeros B text ≤ length text
zeros_within B text = prefix_len-le-length (λ b. b == zero_letter B) text

-- a text that denotes a number above 0 has more than leading zeros
pub after_zeros_some : (B text : List ℕ) → 0 < value B (after_zeros B text)
    → 0 < length (after_zeros B text)
after_zeros_some B text h = elim (cases_eq (length (after_zeros B text)) 0) [
  | inl none ↦ let zero_value = ap (value B) (nil_from_length (after_zeros B text) none) ∙ value-nil B in absurd (omega arith)
  | inr some ↦ omega arith
]

-- the first byte after the leading zeros is not the zero letter
pub after_zeros_first : (B text : List ℕ) → 0 < length (after_zeros B text)
    → get_or (after_zeros B text) 0 0 ≢ zero_letter B
after_zeros_first B text some same =
    let z = leading_zeros B text in
    let place : get_or (after_zeros B text) 0 0 ≡ get_or text z 0 = get_or-drop z text 0 0 ∙ ap (λ k. get_or text k 0) (omega arith) in
    let stops = prefix_len_stops (λ b. b == zero_letter B) text 0 (omega (arith, length-drop z text)) in
    eqb-false _ _ stops (sym place ∙ same)

-- a zero letter before a text is one more leading zero, with the same text after the zeros
after_zeros_front : (B text : List ℕ) → after_zeros B (zero_letter B ∷ text) ≡ after_zeros B text
after_zeros_front B text =
    let zeros : leading_zeros B (zero_letter B ∷ text) ≡ suc (leading_zeros B text) = rw (eq-eqb (zero_letter B) (zero_letter B) refl) (omega arith) in
    ap (λ k. drop k (zero_letter B ∷ text)) zeros

-- in each case of a test a bad byte moves on
one_place_on-if : (b : Bool) (x y : Result ℕ DecodeError)
    → one_place_on (if b then x else y) ≡ (if b then one_place_on x else one_place_on y)
one_place_on-if true x y = refl
one_place_on-if false x y = refl

module _ (B : List ℕ) (ok : IsAlphabet B) where
  pub zero_is_letter : IsLetter B (zero_letter B)
  zero_is_letter = is_letter-letter B ok 0 (omega arith)

  pub zero_digit : digit_or_zero B (zero_letter B) ≡ 0
  zero_digit = digit_or_zero-letter B ok 0 (omega arith)

  -- leading zeros are letters
  pub zeros_letters : (text : List ℕ) → AreLetters B (take (leading_zeros B text) text)
  zeros_letters text =
      let z = leading_zeros B text in
      All-from_get_or (IsLetter B) (take z text) 0 (λ k h.
      let below : k < z = omega (arith, h, length-take-le z text (zeros_within B text)) in
      ap (is_letter B) (get_or-take z text k 0 below ∙ zero_before B text k below) ∙ zero_is_letter)

  -- so a text has only letters if what follows them has
  pub letters_from_after_zeros : (text : List ℕ) → AreLetters B (after_zeros B text)
      → AreLetters B text
  letters_from_after_zeros text letters =
      let z = leading_zeros B text in
      subst (AreLetters B) (take-append-drop z text) (All-append (IsLetter B) (take z text) (after_zeros B text) (zeros_letters text) letters)

  zeros_value : (text : List ℕ) (k : ℕ) → k ≤ leading_zeros B text → value B (take k text) ≡ 0
  zeros_value text zero h = value-nil B
  zeros_value text (suc k) h =
      let more = value_more B text k (omega (arith, zeros_within B text)) in
      let front = zeros_value text k (omega arith) in
      let digit : digit_or_zero B (get_or text k 0) ≡ 0 = ap (digit_or_zero B) (zero_before B text k (omega arith)) ∙ zero_digit in
      let e : take (suc k) text ≡ take (k + 1) text = ap (λ n. take n text) (sym (add-one k)) in
      rw (e, more, front, digit) refl

  -- leading zeros add nothing
  pub value-after_zeros : (text : List ℕ) → value B text ≡ value B (after_zeros B text)
  value-after_zeros text =
      let z = leading_zeros B text in
      let none = zeros_value text z (omega arith) in
      value-cut B text z ∙ rw none (omega arith)

  -- a zero letter before a text adds nothing
  pub value_front : (text : List ℕ) → value B (zero_letter B ∷ text) ≡ value B text
  value_front text = rw (value-cons B (zero_letter B) text, zero_digit) (omega arith)

  -- and the index of a bad byte is one greater
  first_invalid_front : (text : List ℕ)
      → first_invalid B (zero_letter B ∷ text)
      ≡ InvalidBase62Byte (get_or text (invalid_index B text) 0) (invalid_index B text + 1)
  first_invalid_front text =
      let index = invalid_index B text in
      let place : invalid_index B (zero_letter B ∷ text) ≡ suc index = rw zero_is_letter (omega arith) in
      let more : suc index ≡ index + 1 = omega arith in
      ap (λ k. InvalidBase62Byte (get_or (zero_letter B ∷ text) k 0) k) place ∙ ap (InvalidBase62Byte (get_or text index 0)) more

  -- so it adds one to the index of a bad byte, and changes no other result
  pub decoding-zero_front : (text : List ℕ) → 0 < length text
      → decoding B (zero_letter B ∷ text) ≡ one_place_on (decoding B text)
  unfolding decoding
  decoding-zero_front text some =
      let more = ne_eqb (suc (length text)) 0 (λ e. omega arith) in
      let nonempty = ne_eqb (length text) 0 (λ e. omega arith) in
      rw (more, nonempty, after_zeros_front B text, first_invalid_front text, value_front text) (simp one_place_on-if)
