-- Literal texts: what they denote, and which are canonical.
use Rattle.std.proofs.Common.{◌≡◌, ℕ, ◌-◌, ◌^◌, ◌<◌, ◌≤◌, true, List, codes, length, Ok, Err, refl, inr, lit≤, arith}
use Rattle.std.specs.List.{list_all}
use Rattle.std.proofs.lemmas.List.Sums.{AllPass-from_list_all}
use Rattle.base62.specs.Alphabet.{IsAlphabet, standard, is_letter}
use Rattle.base62.specs.Value.{value}
use Rattle.base62.specs.declared.fault.EncodeError.TheVariants.{BufferTooSmall}
use Rattle.base62.specs.Canonical.{Denotes, IsCanonical, CanonicalFits}
use Rattle.base62.specs.Encoding.{EncodesInto}
use Rattle.base62.specs.Fixed.{IsFixed}
use Rattle.base62.proofs.AlphabetLemmas.{standard_is_alphabet}
use Rattle.base62.proofs.CanonicalLemmas.{canonical_is, canonical_fits}
use Rattle.base62.proofs.OnLiterals.{base62_on_literals}

-- a text of letters denotes its value
pub denotes_by : (B text : List ℕ) (n : ℕ) → 0 < length text → list_all (is_letter B) text ≡ true
    → value B text ≡ n → Denotes B text n
denotes_by B text n some letters is = record { nonempty = some; letters = AllPass-from_list_all (is_letter B) text letters; value_is = is }

-- and is canonical if one letter fewer would not do
pub canonical_by : (B : List ℕ) → IsAlphabet B → (text : List ℕ) (n : ℕ) → Denotes B text n
    → 62 ^ (length text - 1) ≤ n → IsCanonical B text n
canonical_by B ok text n denotes least = canonical_is B ok text n denotes (inr least)

-- ---- over the standard alphabet

pub denotes_1337 : Denotes standard (codes "LZ") 1337
unfolding base62_on_literals
denotes_1337 = denotes_by standard (codes "LZ") 1337 (omega arith) refl refl

pub canonical_1337 : IsCanonical standard (codes "LZ") 1337
canonical_1337 = canonical_by standard standard_is_alphabet (codes "LZ") 1337 denotes_1337 (lit≤ tt)

-- the first number that is not below 2^128
pub denotes_above : Denotes standard (codes "7n42DGM5Tflk9n8mt7Fhc8") (2 ^ 128)
unfolding base62_on_literals
denotes_above = denotes_by standard (codes "7n42DGM5Tflk9n8mt7Fhc8") (2 ^ 128) (omega arith) refl refl

-- ---- texts of a fixed width

pub fixed_by : (B : List ℕ) (w : ℕ) (text : List ℕ) (n : ℕ) → length text ≡ w → 0 < w
    → list_all (is_letter B) text ≡ true → value B text ≡ n → IsFixed B w text n
fixed_by B w text n size some letters is = record { size = size; denotes = denotes_by B text n (rw size some) letters is }

-- ---- what is encoded of 1337

-- not the text with a leading zero
pub leading_1337 : IsCanonical standard (codes "0LZ") 1337 → ⊥
leading_1337 h = let less : 3 ≤ 2 = h.shortest (codes "LZ") denotes_1337 in omega (arith, less)

-- its text has two letters, so it does not fit into one
pub fits_1337 : CanonicalFits standard 1337 2
fits_1337 = (codes "LZ", canonical_1337, lit≤ tt)

pub too_long_1337 : CanonicalFits standard 1337 1 → ⊥
too_long_1337 h = let less : 2 ≤ 1 = canonical_fits standard (codes "LZ") 1337 1 canonical_1337 h in omega (arith, less)

-- it is written into a longer buffer
pub encodes_1337 : EncodesInto standard 1337 (codes "...") (codes "LZ.") (Ok 2)
unfolding base62_on_literals
encodes_1337 = record {
  fits = (λ _. (codes "LZ", canonical_1337, lit≤ tt), λ _. refl);
  text = (lit≤ tt, canonical_1337);
  back = refl;
  others = refl;
  short = (lit≤ tt, lit≤ tt);
  refused = tt;
  roomy = λ _. refl;
}

-- and does not fit into a shorter one
pub refuses_1337 : EncodesInto standard 1337 (codes ".") (codes ".") (Err BufferTooSmall)
refuses_1337 = record {
  fits = (λ e. cc, λ fits. absurd (too_long_1337 fits));
  text = tt;
  back = tt;
  others = tt;
  short = tt;
  refused = refl;
  roomy = λ room. absurd (let less : 22 ≤ 1 = room in omega (arith, less));
}
