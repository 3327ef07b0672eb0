use Rattle.std.proofs.Common.{◌≡◌, ◌≢◌, []}
use Rattle.std.specs.List.{All}
use Rattle.base62_cli.proofs.StreamLemmas.{Progress}
use Rattle.base62_cli.proofs.tool.run.Given as goal

abbrev pub invariant-loop : goal.invariant-loop
invariant-loop g l =
    All (λ b. b ≢ 10) l.line.items × (l.out.items ≡ [])
    × Progress (g.R.Read.remaining l.fn.reader) (g.R.Read.remaining l.reader) (g.W.Write.contents l.fn.writer) (g.W.Write.contents l.writer) l.line.items
