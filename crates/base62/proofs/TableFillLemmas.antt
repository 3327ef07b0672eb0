-- The digits of bytes, as they are filled in letter by letter.
use Rattle.std.proofs.Common.{◌≡◌, ℕ, ◌<◌, ◌≤◌, List, length, get_or, Option, Some, None, unwrap_or, refl, sym, ap, ◌∙◌, arith, ◌⊎◌, inl, inr}
use Rattle.std.proofs.lemmas.List.{ext_get_or}
use Rattle.std.proofs.lemmas.List.Elements.{All-from_get_or}
use Rattle.std.proofs.lemmas.List.FromFn.{length-map-range_with_len}
use Rattle.base62.specs.Alphabet.{IsAlphabet, digit_of}
use Rattle.base62.specs.Tables.{digit_or_255, digits_of_bytes}
use Rattle.base62.proofs.AlphabetLemmas.{digit_of-letter, letter-digit_of}
use Rattle.base62.proofs.TableLemmas.{get_or-digits_of_bytes}

-- there are the digits of the first i letters, and 255 for all other bytes
pub record AreDigitsOfFirst (B T : List ℕ) (i : ℕ) : Type 0 where
  pub size : length T ≡ 256
  pub digits : (k : ℕ) → k < i → get_or T (get_or B k 0) 0 ≡ k
  pub bytes : (x : ℕ) → x < 256
      → (get_or T x 0 ≡ 255) ⊎ ((get_or T x 0 < i) × (get_or B (get_or T x 0) 0 ≡ x))

-- the letters whose digits are there are distinct
distinct_first : (B T : List ℕ) (i : ℕ) → AreDigitsOfFirst B T i → (j k : ℕ) → j < i → k < i
    → get_or B j 0 ≡ get_or B k 0 → j ≡ k
distinct_first B T i held j k p q same = sym (held.digits j p) ∙ ap (λ x. get_or T x 0) same ∙ held.digits k q

module _ (B : List ℕ) (ok : IsAlphabet B) (T : List ℕ) (held : AreDigitsOfFirst B T 62) where
  -- where there is 255, the byte has no digit
  no_digit : (x : ℕ) → get_or T x 0 ≡ 255 → (o : Option ℕ) → digit_of B x ≡ o
      → unwrap_or o 255 ≡ 255
  no_digit x none None e = refl
  no_digit x none (Some d) e =
      let at = letter-digit_of B x d e in
      let is : get_or T x 0 ≡ d = sym (ap (λ y. get_or T y 0) at.1) ∙ held.digits d (omega (arith, at.0, ok.size)) in
      sym is ∙ none

  -- once all letters are in, these are the digits of all bytes
  digits_of_all : T ≡ digits_of_bytes B
  unfolding digits_of_bytes
  digits_of_all =
      let size : length (digits_of_bytes B) ≡ 256 = length-map-range_with_len (digit_or_255 B) 0 256 in
      ext_get_or 0 T (digits_of_bytes B) (held.size ∙ sym size) (λ x h.
      let below : x < 256 = omega (arith, h, held.size) in
      let entry : get_or (digits_of_bytes B) x 0 ≡ digit_or_255 B x = get_or-digits_of_bytes B x below in
      elim (held.bytes x below) [
        | inl none ↦ none ∙ sym (no_digit x none (digit_of B x) refl) ∙ sym entry
        | inr some ↦
            let digit : digit_of B x ≡ Some (get_or T x 0) = ap (digit_of B) (sym some.1) ∙ digit_of-letter B ok (get_or T x 0) some.0 in
            sym (ap (λ o. unwrap_or o 255) digit) ∙ sym entry
      ])

-- then the letters are an alphabet
pub alphabet_of_all : (B T : List ℕ) (i : ℕ) → length B ≡ 62 → ((k : ℕ) → get_or B k 0 < 256)
    → 62 ≤ i → i ≤ 62 → AreDigitsOfFirst B T i → IsAlphabet B × (T ≡ digits_of_bytes B)
alphabet_of_all B T i size fits low high held =
    let all : i ≡ 62 = omega (arith, low, high) in
    let full : AreDigitsOfFirst B T 62 = rw all at held in
    let ok : IsAlphabet B = record {
      size = size;
      bytes = All-from_get_or (λ b. b < 256) B 0 (λ k _. fits k);
      distinct = distinct_first B T 62 full;
    } in
    (ok, digits_of_all B ok T full)
