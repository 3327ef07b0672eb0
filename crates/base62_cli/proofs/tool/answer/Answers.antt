use Rattle.std.proofs.Common.{◌≡◌, ◌≢◌, ℕ, [], ◌∷◌, List, ◌++◌, ap, ◌∙◌, append_assoc}
use Rattle.std.proofs.lemmas.List.Elements.{All-append}
use Rattle.base62_cli.proofs.LineLemmas.{leaves_after_line}
use Rattle.base62_cli.proofs.tool.answer.Goals as goal

-- the line that ends in the rest, and what follows it
line_cut : (line rest end after more : List ℕ) → rest ≡ end ++ 10 ∷ after → line ++ (rest ++ more) ≡ (line ++ end) ++ 10 ∷ (after ++ more)
line_cut line rest end after more e = ap (λ r. line ++ (r ++ more)) e ∙ simp append_assoc

pub loop-whole-init : goal.loop-whole-init
loop-whole-init c =
    let line = c.args.line.now.items in
    let end = c.in-Some.end.now in
    let after = c.in-Some.rest.now in
    let cut = c.in-Some.ensures in
    let reply = c.in_ok-push_reply.ensures in
    let unended = All-append (λ b. b ≢ 10) line end c.requires cut.0 in
    let is = rw (c.as_slice.ensures.value ∙ c.in_ok-append.ensures) at reply.1 in (
      reply.0 ++ 10 ∷ [],
      reply.2,
      λ more. leaves_after_line _ [] (line ++ end) _ reply.0 (after ++ more) unended is (line_cut line c.args.chunk.now end after more cut.1) (λ later h. h),
    )

pub loop-whole-preserved : goal.loop-whole-preserved
loop-whole-preserved c =
    let l = c.loop-whole in
    let whole = c.in-Some-split_line.whole.now in
    let after = c.in-Some-split_line.after.now in
    let cut = c.in-Some-split_line.ensures in
    let reply = c.in_ok-push_reply-2.ensures in (
      l.invariant.0 ++ (reply.0 ++ 10 ∷ []),
      reply.2 ∙ ap (λ out. out ++ (reply.0 ++ 10 ∷ [])) l.invariant.1 ∙ append_assoc _ l.invariant.0 _,
      λ more. leaves_after_line _ l.invariant.0 whole _ reply.0 (after ++ more) cut.0 reply.1 (line_cut [] l.rest.now whole after more cut.1) (l.invariant.2 more),
    )
