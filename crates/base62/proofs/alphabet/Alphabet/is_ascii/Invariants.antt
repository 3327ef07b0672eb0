use Rattle.std.proofs.Common.{◌≡◌, ◌-◌, ◌<◌, ◌≤◌, ◌↔◌, ℕ, true, get_or}
use Rattle.base62.proofs.alphabet.Alphabet.is_ascii.Given as goal

abbrev pub invariant-loop-index : goal.invariant-loop-index
invariant-loop-index l = (l.index ≤ 62)
    × (l.is_ascii ≡ true ↔ ((k : ℕ) → k < l.index → get_or l.characters k 0 < 128))

abbrev pub decreases-loop-index : goal.decreases-loop-index
decreases-loop-index l = 62 - l.index
