use Rattle.std.proofs.Common.{◌≡◌, ℕ, List, ◌++◌, length}
use Rattle.base62_cli.specs.Output.{Leaves}
use Rattle.base62_cli.proofs.tool.answer.Given as goal

-- the replies so far leave the rest of the chunk
abbrev pub invariant-loop-whole : goal.invariant-loop-whole
invariant-loop-whole l =
    (replies : List ℕ) × (l.out.items ≡ l.fn.out.items ++ replies)
    × ((more : List ℕ) → Leaves (l.fn.line.items ++ (l.chunk ++ more)) replies (l.rest ++ more))

abbrev pub decreases-loop-whole : goal.decreases-loop-whole
decreases-loop-whole l = length l.rest
