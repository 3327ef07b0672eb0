use Rattle.std.proofs.Common.{◌≡◌, ◌++◌, ◌∷◌, [], decimal, ap, sym, ◌∙◌, arith, append_assoc}
use Rattle.std.proofs.lemmas.Result.{on_ok_weaker}
use Rattle.base62_cli.proofs.DecimalLemmas.{decimal_parts, zeros_written, with_zeros}
use Rattle.base62_cli.proofs.reply.push_number.Goals as goal

pub returns : goal.returns
returns c =
    let high = c.cut_by_19-high.result.0 in
    let low = c.cut_by_19-high.result.1 in
    let whole = c.cut_by_19-high.ensures.whole in
    let below = c.cut_by_19-high.ensures.low in
    let cut : decimal c.args.number ≡ decimal high ++ with_zeros 19 low =
    ap decimal (sym whole) ∙ decimal_parts 18 high low (omega (arith, whole, below)) below (omega (arith, whole)) in
    on_ok_weaker c.writeln-2.result (λ h. h ∙ ap (λ text. c.args.out.now.items ++ text) (rw (zeros_written low, cut) (sym (append_assoc (decimal high) (with_zeros 19 low) (10 ∷ [])))))
    (rw c.laid_out.ensures at c.writeln-2.ensures.bytes)
