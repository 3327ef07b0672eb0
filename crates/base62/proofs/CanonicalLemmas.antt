-- Which texts are canonical, that a number has no two, and that they are ASCII if the letters are.
use Rattle.std.proofs.Common.{◌≡◌, ℕ, ◌-◌, ◌^◌, ◌<◌, ◌≤◌, ◌⊎◌, List, length, sym, ◌∙◌, inl, inr, arith}
use Rattle.std.proofs.lemmas.Bool.{cases_lt}
use Rattle.std.specs.Str.{IsAscii}
use Rattle.base62.specs.Alphabet.{IsAlphabet}
use Rattle.base62.specs.Canonical.{Denotes, IsCanonical, CanonicalFits}
use Rattle.base62.proofs.AlphabetLemmas.{standard_is_ascii, alternative_is_ascii}
use Rattle.base62.proofs.LetterLemmas.{letters_ascii}
use Rattle.base62.proofs.ValueLemmas.{value-lt_most, same_text}

-- n needs at least k letters: k is 1, or one letter less does not suffice
abbrev pub NeedsLetters : ℕ → ℕ → Type 0
NeedsLetters k n = (k ≡ 1) ⊎ (62 ^ (k - 1) ≤ n)

module _ (B : List ℕ) (ok : IsAlphabet B) where
  -- so a text of fewer cannot denote it
  too_short : (k n : ℕ) → NeedsLetters k n → (other : List ℕ) → Denotes B other n
      → length other < k → ⊥
  too_short k n (inl one) other d less = omega (arith, d.nonempty)
  too_short k n (inr big) other d less =
      let below = value-lt_most B ok other (k - 1) (omega arith) in omega (arith, d.value_is)

  -- a text that denotes n is canonical if it has one letter, or one letter less does not suffice
  pub canonical_is : (text : List ℕ) (n : ℕ) → Denotes B text n → NeedsLetters (length text) n
      → IsCanonical B text n
  canonical_is text n d least = record {
    denotes = d;
    shortest = λ other e. elim (cases_lt (length other) (length text)) [ inl less ↦ absurd (too_short (length text) n least other e less) | inr more ↦ more ];
  }

  -- a number has one canonical text
  pub one_canonical : (n : ℕ) (a b : List ℕ) → IsCanonical B a n → IsCanonical B b n → a ≡ b
  one_canonical n a b p q =
      let le = p.shortest b q.denotes in
      let ge = q.shortest a p.denotes in
      same_text B ok a b (omega arith) p.denotes.letters q.denotes.letters (p.denotes.value_is ∙ sym q.denotes.value_is)

-- where some canonical text fits, each does
pub canonical_fits : (B text : List ℕ) (n room : ℕ) → IsCanonical B text n → CanonicalFits B n room
    → length text ≤ room
canonical_fits B text n room canonical other =
    let most = canonical.shortest other.0 other.1.denotes in omega (arith, most, other.2)

-- over an alphabet of ASCII a canonical text is ASCII
pub canonical_is_ascii : (B : List ℕ) → IsAscii B → (text : List ℕ) (n : ℕ) → IsCanonical B text n
    → IsAscii text
canonical_is_ascii B ascii text n canonical = letters_ascii B ascii text canonical.denotes.letters

pub ruleset ascii_texts = (canonical_is_ascii, standard_is_ascii, alternative_is_ascii)
