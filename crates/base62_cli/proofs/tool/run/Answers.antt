use Rattle.std.proofs.Common.{arith}
use Rattle.std.proofs.lemmas.Result.{on_ok_weaker}
use Rattle.base62_cli.proofs.StreamLemmas.{progress_after_read, output_at_end_of_input}
use Rattle.base62_cli.proofs.tool.run.Goals as goal

pub returns-then-count-eq0 : goal.returns-then-count-eq0
returns-then-count-eq0 g c =
    let bytes = c.in-Ok.ensures.bytes in
    let none = c.if-count-eq0.true in
    on_ok_weaker c.finish.result (λ last.
    output_at_end_of_input _ _ _ _ _ _ c.loop.line.items last.0 c.loop.invariant.2 (rw none at bytes.0) (bytes.1 none (omega arith)) (rw c.as_slice.ensures.value at last.1) last.2) c.finish.ensures

pub loop-preserved : goal.loop-preserved
loop-preserved g c =
    let answered = c.in_ok-answer.ensures.answered in (
      c.in_ok-answer.ensures.unended,
      c.clear.ensures.items,
      progress_after_read _ _ _ _ _ _ c.loop.line.items _ _ answered.0 c.loop.invariant.2 c.in-Ok.ensures.bytes.0 answered.2
          (rw (c.as_slice-in-loop.ensures.value, answered.1, c.loop.invariant.1) at c.in-Ok-write_all.ensures.bytes),
    )
