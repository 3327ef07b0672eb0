-- The value of a text, one letter or one part at a time.
use Rattle.std.proofs.Common.{◌≡◌, ℕ, ◌+◌, ◌*◌, ◌^◌, ◌<◌, List, [], ◌∷◌, ◌++◌, length, get_or, map, take, drop, ◌≤◌, refl, sym, ap, ◌∙◌, arith}
use Rattle.std.specs.List.{All}
use Rattle.std.proofs.lemmas.List.{length-map, map-append, take_more, take-append-drop}
use Rattle.std.proofs.lemmas.List.Elements.{All-nil, All-cons, All-head, All-tail}
use Rattle.std.proofs.lemmas.Nat.{same_from_place}
use Rattle.base62.specs.Alphabet.{IsAlphabet, AreLetters}
use Rattle.base62.specs.Value.{value, digit_or_zero}
use Rattle.base62.proofs.PowerLemmas.{fits_more}
use Rattle.base62.proofs.PlacesLemmas.{places-nil, places-cons, places-append, places_push, places-lt}
use Rattle.base62.proofs.AlphabetLemmas.{IsLetter, digit_or_zero-lt, same_letter}

pub value-nil : (B : List ℕ) → value B [] ≡ 0
unfolding value
value-nil B = places-nil 62

-- a letter before a text adds its digit at its place
pub value-cons : (B : List ℕ) (b : ℕ) (text : List ℕ)
    → value B (b ∷ text) ≡ digit_or_zero B b * 62 ^ length text + value B text
unfolding value
value-cons B b text =
    places-cons 62 (digit_or_zero B b) (map (digit_or_zero B) text)
    ∙ ap (λ k. digit_or_zero B b * 62 ^ k + value B text) (length-map text (digit_or_zero B))

-- the value of a text before another is multiplied by 62 to the length of the other
pub value-append : (B a b : List ℕ) → value B (a ++ b) ≡ value B a * 62 ^ length b + value B b
unfolding value
value-append B a b =
    let f : ℕ → ℕ = digit_or_zero B in
    rw (map-append f a b, places-append 62 (map f a) (map f b), length-map b f)

-- so is a text that is cut at any place
pub value-cut : (B text : List ℕ) (k : ℕ)
    → value B text ≡ value B (take k text) * 62 ^ length (drop k text) + value B (drop k text)
value-cut B text k = ap (value B) (sym (take-append-drop k text)) ∙ value-append B (take k text) (drop k text)

-- one letter appended multiplies the others by 62
pub value_push : (B text : List ℕ) (b : ℕ)
    → value B (text ++ b ∷ []) ≡ value B text * 62 + digit_or_zero B b
unfolding value
value_push B text b =
    let f : ℕ → ℕ = digit_or_zero B in rw (map-append f text (b ∷ []), places_push 62 (map f text) (f b))

pub value-one : (B : List ℕ) (b : ℕ) → value B (b ∷ []) ≡ digit_or_zero B b
value-one B b = value_push B [] b ∙ ap (λ v. v * 62 + digit_or_zero B b) (value-nil B) ∙ omega arith

-- one letter more of a text
pub value_more : (B text : List ℕ) (i : ℕ) → i < length text
    → value B (take (i + 1) text) ≡ value B (take i text) * 62 + digit_or_zero B (get_or text i 0)
value_more B text i h = ap (value B) (take_more text i 0 h) ∙ value_push B (take i text) (get_or text i 0)

module _ (B : List ℕ) (ok : IsAlphabet B) where
  -- the digits of a text are below 62
  digits_below : (text : List ℕ) → All (λ d. d < 62) (map (digit_or_zero B) text)
  digits_below [] = All-nil (λ d. d < 62)
  digits_below (b ∷ text) = All-cons (λ d. d < 62) _ _ (digit_or_zero-lt B ok b) (digits_below text)

  -- a text of k letters denotes less than 62^k
  pub value-lt : (text : List ℕ) → value B text < 62 ^ length text
  unfolding value
  value-lt text =
      let below = places-lt 62 (map (digit_or_zero B) text) (digits_below text) in
      rw length-map at below

  -- the value of a text of at most k letters is below 62^k
  pub value-lt_most : (text : List ℕ) (k : ℕ) → length text ≤ k → value B text < 62 ^ k
  value-lt_most text k h = fits_more (value B text) (length text) k (value-lt text) h

  -- two texts of one length and one value are one
  pub same_text : (a b : List ℕ) → length a ≡ length b → AreLetters B a → AreLetters B b
      → value B a ≡ value B b → a ≡ b
  same_text [] [] len p q e = refl
  same_text [] (y ∷ ys) len p q e = cc
  same_text (x ∷ xs) [] len p q e = cc
  same_text (x ∷ xs) (y ∷ ys) len p q e =
      let tails : length xs ≡ length ys = omega arith in
      let sums = rw (value-cons B x xs, value-cons B y ys, ← tails) at e in
      let below : value B ys < 62 ^ length xs = rw tails (value-lt ys) in
      let places = same_from_place (digit_or_zero B x) (value B xs) (digit_or_zero B y) (value B ys) (62 ^ length xs) (value-lt xs) below sums in
      let first = same_letter B x y (All-head (IsLetter B) x xs p) (All-head (IsLetter B) y ys q) places.0 in
      let later = same_text xs ys tails (All-tail (IsLetter B) x xs p) (All-tail (IsLetter B) y ys q) places.1 in
      cc
