use Rattle.std.proofs.Common.{◌-◌, ◌≤◌}
use Rattle.base62.proofs.TableFillLemmas.{AreDigitsOfFirst}
use Rattle.base62.proofs.alphabet.Alphabet.new.Given as goal

abbrev pub invariant-loop-index : goal.invariant-loop-index
invariant-loop-index l = AreDigitsOfFirst l.characters l.digits l.index × (l.index ≤ 62)

abbrev pub decreases-loop-index : goal.decreases-loop-index
decreases-loop-index l = 62 - l.index
