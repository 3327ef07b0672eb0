-- A text of letters is canonical exactly if it has no leading zero letter.
use Rattle.std.proofs.Common.{◌≡◌, ◌≢◌, ℕ, suc, ◌-◌, ◌*◌, ◌^◌, ◌<◌, ◌≤◌, List, [], ◌∷◌, length, get_or, refl, sym, ◌∙◌, inl, inr, arith}
use Rattle.std.proofs.Math.Nat.{le-mul_of_pos_right}
use Rattle.std.proofs.lemmas.Bool.{cases_eq}
use Rattle.std.proofs.lemmas.List.Elements.{All-tail}
use Rattle.base62.specs.Alphabet.{IsAlphabet, AreLetters, zero_letter}
use Rattle.base62.specs.Value.{value, digit_or_zero}
use Rattle.base62.specs.Canonical.{IsCanonical}
use Rattle.base62.specs.Laws.{HasNoLeadingZero}
use Rattle.base62.proofs.AlphabetLemmas.{IsLetter, same_letter}
use Rattle.base62.proofs.ValueLemmas.{value-cons}
use Rattle.base62.proofs.ZeroLemmas.{zero_is_letter, zero_digit, value_front}
use Rattle.base62.proofs.CanonicalLemmas.{NeedsLetters, canonical_is}

module _ (B : List ℕ) (ok : IsAlphabet B) where
  -- a canonical text of two or more letters does not begin with the zero letter, since the others would do
  first_differs : (b : ℕ) (text : List ℕ) (n : ℕ) → IsCanonical B (b ∷ text) n → 0 < length text
      → b ≢ zero_letter B
  first_differs b text n canonical more e =
      let same : value B (b ∷ text) ≡ value B text = rw e (value_front B ok text) in
      let least = canonical.shortest text (record { nonempty = more; letters = All-tail (IsLetter B) b text canonical.denotes.letters; value_is = sym same ∙ canonical.denotes.value_is }) in
      omega (arith, least)

  -- a canonical text has no leading zero
  pub no_leading_zero : (text : List ℕ) (n : ℕ) → IsCanonical B text n → HasNoLeadingZero B text
  no_leading_zero [] n canonical = absurd (omega (arith, canonical.denotes.nonempty))
  no_leading_zero (b ∷ []) n canonical = (omega arith, inl refl)
  no_leading_zero (b ∷ c ∷ text) n canonical = (omega arith, inr (first_differs b (c ∷ text) n canonical (omega arith)))

  -- a letter other than the zero letter has a digit of at least 1
  digit_some : (b : ℕ) → IsLetter B b → b ≢ zero_letter B → 0 < digit_or_zero B b
  digit_some b letter other = elim (cases_eq (digit_or_zero B b) 0) [
    | inl none ↦ absurd (other (same_letter B b (zero_letter B) letter (zero_is_letter B ok) (none ∙ sym (zero_digit B ok))))
    | inr some ↦ omega arith
  ]

  -- such a leading letter has a greater value than all that can come after it
  pub first_weighs : (text : List ℕ) → 0 < length text → IsLetter B (get_or text 0 0)
      → get_or text 0 0 ≢ zero_letter B → 62 ^ (length text - 1) ≤ value B text
  first_weighs [] some letter other = absurd (omega arith)
  first_weighs (b ∷ text) some letter other =
      let back : suc (length text) - 1 ≡ length text = omega arith in
      let weight : 62 ^ length text ≤ digit_or_zero B b * 62 ^ length text = omega (arith, le-mul_of_pos_right (62 ^ length text) (digit_some b letter other)) in
      rw (back, value-cons B b text) (omega arith)

  -- one letter less does not suffice for the value of a text that has no leading zero
  pub needs_each : (text : List ℕ) → AreLetters B text → HasNoLeadingZero B text
      → NeedsLetters (length text) (value B text)
  needs_each text letters has = elim has.1 [
    | inl one ↦ inl one
    | inr differs ↦ inr (first_weighs text has.0 (letters 0 0 has.0) differs)
  ]

  -- a text of letters with no leading zero is canonical for its value
  pub canonical_of_value : (text : List ℕ) → AreLetters B text → HasNoLeadingZero B text
      → IsCanonical B text (value B text)
  canonical_of_value text letters has =
      canonical_is B ok text (value B text) (record { nonempty = has.0; letters = letters; value_is = refl }) (needs_each text letters has)
