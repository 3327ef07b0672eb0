use Rattle.std.proofs.lemmas.Result.{err_from_is_err_and}
use Rattle.base62.proofs.FixedDecodingLemmas.{fixed_wrong, fixed_refused, fixed_number}
use Rattle.base62.proofs.fixed.decode_fixed_over.Goals as goal

pub returns-then-input-width : goal.returns-then-input-width
returns-then-input-width c = fixed_wrong c.args.tables.now.letters c.args.width c.args.input.now c.if-input-width.true

pub returns-in_err-decode_over : goal.returns-in_err-decode_over
returns-in_err-decode_over c =
    let p = err_from_is_err_and c.from_residual.result c.from_residual.ensures.1 in
    rw (p.1, p.2) (fixed_refused
    c.args.tables.now.letters c.args.width c.args.input.now c.requires.alphabet c.if-input-width.false
    c.in_err-decode_over.field-0.0 (cc (c.in_err-decode_over.was, c.decode_over.ensures.answer)))

pub returns : goal.returns
returns c = fixed_number
    c.args.tables.now.letters c.args.width c.args.input.now c.requires.alphabet c.if-input-width.false
    c.in_ok-decode_over.field-0 (cc (c.in_ok-decode_over.was, c.decode_over.ensures.answer))
