-- The steps of encoding, as the encoder takes them.
use Rattle.std.proofs.Common.{◌≡◌, ℕ, ◌+◌, ◌-◌, ◌/◌, ◌≤◌, refl, arith}
use Rattle.base62.specs.Steps.{encoding_steps}
use Rattle.base62.proofs.ComputedLemmas.{same_on_range, at_most_on_range}

-- one for two letters, and one for a letter that is left
pub short_steps : (d : ℕ) → 1 ≤ d → d ≤ 9 → encoding_steps d ≡ (d + 1) / 2
unfolding encoding_steps
short_steps d some few = same_on_range encoding_steps (λ d. (d + 1) / 2) 1 9 refl d some (omega arith)

-- ten more letters take six
pub ten_steps : (d : ℕ) → 11 ≤ d → d ≤ 19 → encoding_steps d ≡ (d - 10 + 1) / 2 + 6
unfolding encoding_steps
ten_steps d some few = same_on_range encoding_steps (λ d. (d - 10 + 1) / 2 + 6) 11 9 refl d some (omega arith)

-- those of 10 and 11 letters, of 20, and of 21 and 22
pub narrow_steps : (d : ℕ) → 10 ≤ d → d ≤ 11 → encoding_steps d ≡ 7
unfolding encoding_steps
narrow_steps d some few = same_on_range encoding_steps (λ _. 7) 10 2 refl d some (omega arith)

pub steps_of_20 : encoding_steps 20 ≡ 12
unfolding encoding_steps
steps_of_20 = refl

pub twenty_steps : (d : ℕ) → 21 ≤ d → d ≤ 22 → encoding_steps d ≡ 13
unfolding encoding_steps
twenty_steps d some few = same_on_range encoding_steps (λ _. 13) 21 2 refl d some (omega arith)

-- none takes more than 13
pub most_steps : (d : ℕ) → d ≤ 22 → encoding_steps d ≤ 13
unfolding encoding_steps
most_steps d few = at_most_on_range encoding_steps (λ _. 13) 0 23 refl d (omega arith) (omega arith)
