use Rattle.std.proofs.Common.{length, Ok, Err, arith}
use Rattle.std.proofs.lemmas.Result.{err_from_is_err_and}
use Rattle.base62.proofs.DecodingLemmas.{cut_at, decodes_first_refused, decodes_shown, decodes_short, decodes_later, weight_is, too_large, sum_or_overflow}
use Rattle.base62.proofs.codec.decoder.read_long.Goals as goal

pub returns-in_err-leading : goal.returns-in_err-leading
returns-in_err-leading c = λ input zeros behind.
    let cut = cut_at zeros behind c.split_at.ensures.front c.split_at.ensures.back c.requires.long c.requires.short in
    let p = err_from_is_err_and c.from_residual.result c.from_residual.ensures.1 in
    rw (p.1, p.2) (decodes_first_refused c.requires.tables.alphabet cut c.in_err-leading.ensures)

pub returns-in_err-last : goal.returns-in_err-last
returns-in_err-last c = λ input zeros behind.
    let cut = cut_at zeros behind c.split_at.ensures.front c.split_at.ensures.back c.requires.long c.requires.short in
    let p = err_from_is_err_and c.from_residual-in_err-last.result c.from_residual-in_err-last.ensures.1 in
    rw (p.1, p.2) (decodes_short c.requires.tables.alphabet cut c.in_ok-leading.ensures
    _ (Err c.in_err-last.field-0.0) c.in_err-last.ensures (omega (arith, c.if-later-le10.true)))

pub returns-then-later-le10 : goal.returns-then-later-le10
returns-then-later-le10 c = λ input zeros behind.
    let cut = cut_at zeros behind c.split_at.ensures.front c.split_at.ensures.back c.requires.long c.requires.short in
    rw c.power.ensures (decodes_short c.requires.tables.alphabet cut c.in_ok-leading.ensures
    _ (Ok c.in_ok-last.last) c.in_ok-last.ensures (omega (arith, c.if-later-le10.true)))

pub returns-in_default : goal.returns-in_default
returns-in_default c = λ input zeros behind.
    let weight = weight_is (length c.split_at.result.1.now) (omega (arith, c.if-later-le10.false)) in
    let cut = cut_at zeros behind c.split_at.ensures.front c.split_at.ensures.back c.requires.long c.requires.short in
    decodes_shown c.requires.tables.alphabet cut c.in_ok-leading.ensures
    (rw (c.power-2.ensures, weight) at (too_large _ c.in_default.ensures))

pub returns-in_err-low : goal.returns-in_err-low
returns-in_err-low c = λ input zeros behind.
    let weight = weight_is (length c.split_at.result.1.now) (omega (arith, c.if-later-le10.false)) in
    let cut = cut_at zeros behind c.split_at.ensures.front c.split_at.ensures.back c.requires.long c.requires.short in
    let p = err_from_is_err_and c.from_residual-in_err-low.result c.from_residual-in_err-low.ensures.1 in
    rw (p.1, p.2) (decodes_later c.requires.tables.alphabet cut c.in_ok-leading.ensures
    _ (Err c.in_err-low.field-0.0) c.in_err-low.ensures (rw (c.power-2.ensures, weight) at c.in-Some.ensures.0))

pub returns : goal.returns
returns c = λ input zeros behind.
    let weight = weight_is (length c.split_at.result.1.now) (omega (arith, c.if-later-le10.false)) in
    let cut = cut_at zeros behind c.split_at.ensures.front c.split_at.ensures.back c.requires.long c.requires.short in
    rw (c.ok_or.ensures.value, sum_or_overflow c.checked_add.result _ c.checked_add.ensures, c.in-Some.ensures.1, c.power-2.ensures, weight)
    (decodes_later c.requires.tables.alphabet cut c.in_ok-leading.ensures
    _ (Ok c.in_ok-low.low) c.in_ok-low.ensures (rw (c.power-2.ensures, weight) at c.in-Some.ensures.0))
