use Rattle.std.proofs.Common.{◌≡◌, ◌+◌, ◌*◌, ◌^◌, length, take, Ok, Err, refl, ap, arith}
use Rattle.std.proofs.lemmas.List.{length-take-le, take_all}
use Rattle.std.proofs.lemmas.Result.{err_from_is_err_and}
use Rattle.base62.specs.Parts.{HasRead}
use Rattle.base62.proofs.PartLemmas.{read_none, read_below, reads_more, refuses_cut, on_below, on_more}
use Rattle.base62.proofs.codec.decoder.read_up_to_5_more.Goals as goal

pub loop-i-init : goal.loop-i-init
loop-i-init c = (omega arith, (0, read_none c.args.tables.now.letters c.args.part.now c.args.work.now, omega arith))

pub overflow_mul-total : goal.overflow_mul-total
overflow_mul-total c =
    let i = c.loop-i.i in
    let read = c.loop-i.invariant.1 in
    let size = length-take-le i c.args.part.now c.loop-i.invariant.0 in
    let less = read_below c.args.tables.now.letters (take i c.args.part.now) _ _ _ i c.requires.tables.alphabet read.1 (omega (arith, size)) in
    omega (arith, read.2, on_below c.args.number read.0 i 4 c.requires.number less (omega arith))

pub returns-in_err-digit : goal.returns-in_err-digit
returns-in_err-digit c =
    let B = c.args.tables.now.letters in
    let part = c.args.part.now in
    let i = c.loop-i.i in
    let p = err_from_is_err_and c.from_residual.result c.from_residual.ensures.1 in
    let bad = reads_more B part i c.args.start c.args.work.now _ _ _ (Err c.in_err-digit.field-0.0) (omega arith) c.loop-i.invariant.1.1 c.in_err-digit.ensures.read in
    rw (p.1, p.2) (Err c.in_err-digit.field-0.0, refuses_cut B part (take (i + 1) part) (i + 1) c.args.start c.args.work.now refl _ _ bad, refl)

-- one letter more
more : (c : goal.In_ok-digit)
    → HasRead c.args.tables.now.letters (take (c.loop-i.i + 1) c.args.part.now) c.args.work.now c.read_digit.new.work (c.loop-i.invariant.1.0 * 62 ^ 1 + c.in_ok-digit.digit)
more c =
    reads_more c.args.tables.now.letters c.args.part.now c.loop-i.i c.args.start c.args.work.now _ _ _ (Ok c.in_ok-digit.digit) (omega arith) c.loop-i.invariant.1.1 c.in_ok-digit.ensures.read

total_is : (c : goal.In_ok-digit) → c.loop-i.total * 62 + c.in_ok-digit.digit ≡ c.args.number * 62 ^ (c.loop-i.i + 1) + (c.loop-i.invariant.1.0 * 62 ^ 1 + c.in_ok-digit.digit)
total_is c = on_more c.args.number c.loop-i.total c.loop-i.invariant.1.0 c.loop-i.i c.in_ok-digit.digit c.loop-i.invariant.1.2

pub overflow_add-total : goal.overflow_add-total
overflow_add-total c =
    let i = c.loop-i.i + 1 in
    let size = length-take-le i c.args.part.now (omega arith) in
    let less = read_below c.args.tables.now.letters (take i c.args.part.now) _ _ _ i c.requires.tables.alphabet (more c) (omega (arith, size)) in
    omega (arith, total_is c, on_below c.args.number _ i 5 c.requires.number less (omega arith))

pub loop-i-preserved : goal.loop-i-preserved
loop-i-preserved c = (omega arith, (_, more c, total_is c))

pub returns : goal.returns
returns c =
    let i = c.loop-i.i in
    let all : i ≡ length c.args.part.now = omega (arith, c.loop-i.invariant.0, c.loop-i-test.false) in
    let whole = take_all i c.args.part.now (omega (arith, all)) in
    (Ok c.loop-i.invariant.1.0, rw whole at c.loop-i.invariant.1.1, ap Ok (rw all at c.loop-i.invariant.1.2))
