-- Canonical texts: the one text that encoding writes for a number.
use Rattle.std.specs.Prelude.{◌≡◌, ℕ, ◌<◌, ◌≤◌, List, length}
use Rattle.base62.specs.Alphabet.{IsAlphabet, AreLetters}
use Rattle.base62.specs.Value.{value}

-- a nonempty text of letters that denotes n
pub record Denotes (B text : List ℕ) (n : ℕ) : Type 0 where
  pub nonempty : 0 < length text
  pub letters : AreLetters B text
  pub value_is : value B text ≡ n

-- the text denotes n, and no text that denotes n is shorter
pub record IsCanonical (B text : List ℕ) (n : ℕ) : Type 0 where
  pub denotes : Denotes B text n
  pub shortest : (other : List ℕ) → Denotes B other n → length text ≤ length other

-- a canonical text of n has at most `room` letters
abbrev pub CanonicalFits : List ℕ → ℕ → ℕ → Type 0
CanonicalFits B n room = (text : List ℕ) × IsCanonical B text n × (length text ≤ room)

-- over each alphabet n has a canonical text of count letters
abbrev pub DigitCount : ℕ → ℕ → Type 0
DigitCount n count =
    (B : List ℕ) → IsAlphabet B → (text : List ℕ) × IsCanonical B text n × (length text ≡ count)
