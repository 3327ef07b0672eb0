use Rattle.std.proofs.Common.{◌+◌, ◌-◌, ◌<◌, ◌≤◌, ℕ, get_or}
use Rattle.base62.proofs.alphabet.Alphabet.is_ascending.Given as goal

abbrev pub invariant-loop-index : goal.invariant-loop-index
invariant-loop-index l = (0 < l.index) × (l.index ≤ 62)
    × ((d : ℕ) → d + 1 < l.index → get_or l.characters d 0 < get_or l.characters (d + 1) 0)

abbrev pub decreases-loop-index : goal.decreases-loop-index
decreases-loop-index l = 62 - l.index
