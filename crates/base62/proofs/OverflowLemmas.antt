-- A text denotes 2^128 or more, whatever letters replace its bad bytes.
use Rattle.std.proofs.Common.{◌≡◌, ℕ, ◌+◌, ◌-◌, ◌*◌, ◌^◌, ◌<◌, ◌≤◌, List, length, get_or, take, drop, sym, ap, ◌∙◌, arith, min}
use Rattle.std.proofs.lemmas.List.{length-drop, length-take, get_or-drop, get_or-take, ext_get_or}
use Rattle.std.proofs.lemmas.List.Elements.{All-drop, All-take}
use Rattle.base62.specs.Alphabet.{IsAlphabet, AreLetters, is_letter}
use Rattle.base62.specs.Value.{value}
use Rattle.base62.specs.Decoding.{leading_zeros, after_zeros, first_ten}
use Rattle.base62.specs.Laws.{AgreesAtLetters}
use Rattle.base62.proofs.AlphabetLemmas.{IsLetter}
use Rattle.base62.proofs.PowerLemmas.{power_grows}
use Rattle.base62.proofs.ValueLemmas.{value-cut}
use Rattle.base62.proofs.ZeroLemmas.{after_zeros_first}
use Rattle.base62.proofs.LengthLemmas.{first_weighs}

-- a text denotes at least what any end of it does
value-drop-le : (B text : List ℕ) (k : ℕ) → value B (drop k text) ≤ value B text
value-drop-le B text k = omega (arith, value-cut B text k)

-- texts that agree at letters
module _ (B text other : List ℕ) (a : AgreesAtLetters B text other) where
  -- agree from any place on
  agrees-drop : (k : ℕ) → AgreesAtLetters B (drop k text) (drop k other)
  agrees-drop k = record {
    size = length-drop k other ∙ ap (λ n. n - k) a.size ∙ sym (length-drop k text);
    letters = All-drop (IsLetter B) k other a.letters;
    agrees = λ i h p.
        let same = get_or-drop k text i 0 in
        get_or-drop k other i 0 ∙ a.agrees (k + i) (omega (arith, length-drop k text)) (ap (is_letter B) (sym same) ∙ p) ∙ sym same;
  }

  -- and up to any place
  agrees-take : (k : ℕ) → AgreesAtLetters B (take k text) (take k other)
  agrees-take k = record {
    size = length-take k other ∙ ap (min k) a.size ∙ sym (length-take k text);
    letters = All-take (IsLetter B) k other a.letters;
    agrees = λ i h p.
        let within : i < k = omega (arith, length-take k text) in
        let same = get_or-take k text i 0 within in
        get_or-take k other i 0 within ∙ a.agrees i (omega (arith, length-take k text)) (ap (is_letter B) (sym same) ∙ p) ∙ sym same;
  }

  -- and a text of letters agrees only with itself
  agrees_same : AreLetters B text → other ≡ text
  agrees_same letters = ext_get_or 0 other text a.size (λ i h. a.agrees i (omega (arith, a.size)) (letters i 0 (omega (arith, a.size))))

module _ (B : List ℕ) (ok : IsAlphabet B) (text other : List ℕ) (a : AgreesAtLetters B text other) where
  other_after_zeros : AgreesAtLetters B (after_zeros B text) (drop (leading_zeros B text) other)
  other_after_zeros = agrees-drop B text other a (leading_zeros B text)

  -- more than 22 bytes after the leading zeros, of which the first is a letter
  pub over_long : 22 < length (after_zeros B text) → IsLetter B (get_or (after_zeros B text) 0 0)
      → 2 ^ 128 ≤ value B other
  over_long long letter =
      let o : List ℕ = drop (leading_zeros B text) other in
      let size : length o ≡ length (after_zeros B text) = other_after_zeros.size in
      let same : get_or o 0 0 ≡ get_or (after_zeros B text) 0 0 = other_after_zeros.agrees 0 (omega arith) letter in
      let weighs = first_weighs B ok o (omega arith) (ap (is_letter B) same ∙ letter) (λ e. after_zeros_first B text (omega arith) (sym same ∙ e)) in
      let grows = power_grows 22 (length o - 1) (omega arith) in
      omega (arith, value-drop-le B other (leading_zeros B text))

  -- 22 bytes after the leading zeros, of which the first ten are letters and show it
  pub over_first : length (after_zeros B text) ≡ 22 → AreLetters B (first_ten B text)
      → 2 ^ 128 ≤ value B (first_ten B text) * 62 ^ 12 → 2 ^ 128 ≤ value B other
  over_first full letters big =
      let o : List ℕ = drop (leading_zeros B text) other in
      let same = agrees_same B (first_ten B text) (take 10 o) (agrees-take B (after_zeros B text) o other_after_zeros 10) letters in
      let twelve : length (drop 10 o) ≡ 12 = length-drop 10 o ∙ omega (arith, other_after_zeros.size) in
      let first : 2 ^ 128 ≤ value B (take 10 o) * 62 ^ length (drop 10 o) = rw (same, twelve) big in
      omega (arith, value-cut B o 10, value-drop-le B other (leading_zeros B text))

  -- only letters after the leading zeros
  pub over_letters : AreLetters B (after_zeros B text) → 2 ^ 128 ≤ value B (after_zeros B text)
      → 2 ^ 128 ≤ value B other
  over_letters letters big =
      let o : List ℕ = drop (leading_zeros B text) other in
      let same = ap (value B) (agrees_same B (after_zeros B text) o other_after_zeros letters) in
      omega (arith, value-drop-le B other (leading_zeros B text))
