use Rattle.std.proofs.Common.{[], ◌∷◌, ◌++◌, sym, ap, ◌∙◌, arith}
use Rattle.std.proofs.lemmas.Bool.{eqb-true, eqb-false}
use Rattle.std.proofs.lemmas.List.{nil_from_length}
use Rattle.std.proofs.lemmas.Result.{on_ok_weaker}
use Rattle.base62_cli.proofs.LineLemmas.{output-nil, output-last}
use Rattle.base62_cli.proofs.tool.answer_last.Goals as goal

pub returns-then-is_empty : goal.returns-then-is_empty
returns-then-is_empty c =
    let none = nil_from_length c.args.line.now (eqb-true _ _ (sym c.is_empty.ensures ∙ c.if-is_empty.true)) in
    rw (none, c.requires.empty) output-nil

pub returns : goal.returns
returns c =
    let some = eqb-false _ _ (sym c.is_empty.ensures ∙ c.if-is_empty.false) in
    on_ok_weaker c.push_reply.result (λ h.
    let all = h.2 ∙ ap (λ out. out ++ (h.0 ++ 10 ∷ [])) c.requires.empty in
    rw all (output-last c.args.line.now h.0 (omega arith) c.requires.unended h.1)) c.push_reply.ensures
