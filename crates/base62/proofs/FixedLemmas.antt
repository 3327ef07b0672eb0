-- Texts of a fixed number of letters, and which of them are canonical.
use Rattle.std.proofs.Common.{◌≡◌, ℕ, zero, suc, ◌+◌, ◌-◌, ◌*◌, ◌/◌, ◌%◌, ◌^◌, ◌<◌, ◌≤◌}
use Rattle.std.proofs.Common.{List, [], ◌∷◌, ◌++◌, length, refl, sym, ap, ◌∙◌, slice_index, inl, inr, arith, add-zero, add-suc, append_assoc}
use Rattle.std.proofs.Math.Nat.{pow-suc, pow-succ', one-le-pow, div-one, div-div-eq-div-mul}
use Rattle.std.proofs.Math.Arith.{mod-mul}
use Rattle.std.proofs.lemmas.Bool.{cases_lt}
use Rattle.std.proofs.lemmas.Nat.{div_below, div-mul-add, mod-mul-add}
use Rattle.std.proofs.lemmas.List.{length_push, append-nil}
use Rattle.std.proofs.lemmas.List.Elements.{All-nil, All-push}
use Rattle.base62.specs.Alphabet.{IsAlphabet, AreLetters}
use Rattle.base62.specs.Value.{value}
use Rattle.base62.specs.Canonical.{Denotes, IsCanonical, DigitCount}
use Rattle.base62.specs.Fixed.{fixed}
use Rattle.base62.proofs.AlphabetLemmas.{IsLetter, is_letter-letter, digit_or_zero-letter}
use Rattle.base62.proofs.ValueLemmas.{value-nil, value_push, value-lt}
use Rattle.base62.proofs.CanonicalLemmas.{NeedsLetters, canonical_is, one_canonical}

pub length-fixed : (B : List ℕ) (w n : ℕ) → length (fixed B w n) ≡ w
unfolding fixed
length-fixed B zero n = refl
length-fixed B (suc w) n = length_push (fixed B w (n / 62)) (slice_index B (n % 62)) ∙ omega (arith, length-fixed B w (n / 62))

-- of n only the last w digits count
fixed-remainder : (B : List ℕ) (w n : ℕ) → fixed B w (n % 62 ^ w) ≡ fixed B w n
unfolding fixed
fixed-remainder B zero n = refl
fixed-remainder B (suc w) n =
    let front = n / 62 % 62 ^ w in
    let cut : n % 62 ^ suc w ≡ front * 62 + n % 62 = rw pow-suc (mod-mul n (one-le-pow w 62 (omega arith)) (omega arith)) in
    rw (cut, div-mul-add front 62 (n % 62) (omega arith), mod-mul-add front 62 (n % 62) (omega arith), fixed-remainder B w (n / 62)) refl

fixed-cut : (B : List ℕ) (v w n : ℕ) → fixed B (v + w) n ≡ fixed B v (n / 62 ^ w) ++ fixed B w n
unfolding fixed
fixed-cut B v zero n = rw (add-zero, append-nil, div-one) refl
fixed-cut B v (suc w) n =
    let last = slice_index B (n % 62) ∷ [] in
    let weight : n / 62 / 62 ^ w ≡ n / 62 ^ suc w = rw pow-succ' (div-div-eq-div-mul n 62 (62 ^ w)) in
    rw (add-suc, ← weight, ← append_assoc) (ap (λ text. text ++ last) (fixed-cut B v w (n / 62)))

-- a text of v + w letters is one of v and one of w
pub fixed-join : (B : List ℕ) (v w n : ℕ)
    → fixed B (v + w) n ≡ fixed B v (n / 62 ^ w) ++ fixed B w (n % 62 ^ w)
fixed-join B v w n = fixed-cut B v w n ∙ ap (λ text. fixed B v (n / 62 ^ w) ++ text) (sym (fixed-remainder B w n))

module _ (B : List ℕ) (ok : IsAlphabet B) where
  letters-fixed : (w n : ℕ) → AreLetters B (fixed B w n)
  unfolding fixed
  letters-fixed zero n = All-nil (IsLetter B)
  letters-fixed (suc w) n =
      All-push (IsLetter B) (fixed B w (n / 62)) _ (letters-fixed w (n / 62)) (is_letter-letter B ok (n % 62) (omega arith))

  -- it has the value n if n is below 62^w
  value-fixed : (w n : ℕ) → n < 62 ^ w → value B (fixed B w n) ≡ n
  unfolding fixed
  value-fixed zero n h = value-nil B ∙ omega arith
  value-fixed (suc w) n h =
      let front = value-fixed w (n / 62) (div_below n 62 (62 ^ w) (omega arith) (rw pow-suc at h)) in
      let last = digit_or_zero-letter B ok (n % 62) (omega arith) in
      rw (value_push B (fixed B w (n / 62)) (slice_index B (n % 62)), front, last) (omega arith)

  -- a text of w letters denotes n if n is below 62^w
  pub denotes-fixed : (w n : ℕ) → 0 < w → n < 62 ^ w → Denotes B (fixed B w n) n
  denotes-fixed w n some fits =
      record { nonempty = omega (arith, length-fixed B w n); letters = letters-fixed w n; value_is = value-fixed w n fits }

  -- n in the least number of letters from 1 on that suffices
  canonical-fixed : (w n : ℕ) → 0 < w → n < 62 ^ w → NeedsLetters w n
      → IsCanonical B (fixed B w n) n
  canonical-fixed w n some fits least =
      let size = length-fixed B w n in canonical_is B ok (fixed B w n) n (denotes-fixed w n some fits) (rw size least)

  -- a number of w letters
  module _ (n w : ℕ) (has : DigitCount n w) where
    -- they suffice
    pub digit_count_fits : n < 62 ^ w
    digit_count_fits =
        let one = has B ok in
        let below = value-lt B ok one.0 in
        rw (one.1.denotes.value_is, one.2) at below

    pub digit_count_some : 1 ≤ w
    digit_count_some = let one = has B ok in omega (arith, one.1.denotes.nonempty, one.2)

    -- a number below 62^k takes at most k letters
    pub digit_count_most : (k : ℕ) → 1 ≤ k → n < 62 ^ k → w ≤ k
    digit_count_most k some small =
        let one = has B ok in omega (arith, one.1.shortest (fixed B k n) (denotes-fixed k n some small), one.2, length-fixed B k n)

    -- and one letter less does not suffice
    digit_count_least : NeedsLetters w n
    digit_count_least = elim (cases_lt n (62 ^ (w - 1))) [
      | inr more ↦ inr more
      | inl less ↦ elim (cases_lt 1 w) [
        | inr one ↦ inl (omega (arith, one, digit_count_some))
        | inl two ↦ absurd (omega (arith, two, digit_count_most (w - 1) (omega arith) less))
      ]
    ]

    -- the canonical text is the one of that many letters
    pub digit_count_canonical : IsCanonical B (fixed B w n) n
    digit_count_canonical = canonical-fixed w n digit_count_some digit_count_fits digit_count_least

    -- each canonical text has as many letters
    pub digit_count_exact : (text : List ℕ) → IsCanonical B text n → length text ≡ w
    digit_count_exact text canonical = let one = has B ok in ap length (one_canonical B ok n text one.0 canonical one.1) ∙ one.2

-- n has a canonical text of the least number of letters from 1 on that suffices
pub digit_count_is : (n w : ℕ) → 0 < w → n < 62 ^ w → NeedsLetters w n → DigitCount n w
digit_count_is n w some fits least = λ B ok. (fixed B w n, canonical-fixed B ok w n some fits least, length-fixed B w n)
