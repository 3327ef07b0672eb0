use Rattle.std.proofs.Common.{◌+◌, ◌-◌, ◌*◌, ◌/◌, ◌^◌, ◌<◌, ◌≡◌, arith}
use Rattle.base62.proofs.PowerLemmas.{fits_more, quotient_fits}
use Rattle.base62.proofs.WritingLemmas.{written_on, back_on}
use Rattle.base62.proofs.StepsLemmas.{ten_steps, steps_of_20, twenty_steps}
use Rattle.base62.proofs.codec.encoder.write_wide.Goals as goal

pub write_1_or_2-requires-clause-fits : goal.write_1_or_2-requires-clause-fits
write_1_or_2-requires-clause-fits c =
    let fits = quotient_fits c.args.n (c.args.count - 20) 20 c.args.count (omega arith) c.requires.fits in
    rw c.divide_by_62_20-top.ensures.quotient fits

pub divide_by_62_10-high-requires : goal.divide_by_62_10-high-requires
divide_by_62_10-high-requires c =
    omega (arith, fits_more c.args.n c.args.count 20 c.requires.fits (omega arith))

pub write_up_to_9-requires-clause-fits : goal.write_up_to_9-requires-clause-fits
write_up_to_9-requires-clause-fits c =
    let both : c.args.count - 10 + 10 ≡ c.args.count = omega (arith, c.requires.least) in
    let fits = quotient_fits c.args.n (c.args.count - 10) 10 c.args.count both c.requires.fits in
    rw c.divide_by_62_10-high.ensures.quotient fits

pub returns-then-count-gt20-clause-written : goal.returns-then-count-gt20-clause-written
returns-then-count-gt20-clause-written c =
    let count = c.args.count in
    let cut = c.divide_by_62_20-top.ensures in
    let B = c.args.tables.now.letters in
    let join = written_on B (count - 20) 20 count c.args.n _ _ (omega arith) cut.quotient cut.remainder in
    let top = c.write_1_or_2 in
    join c.args.buf.now top.new.buf _ c.requires.room c.write_20.ensures.written top.ensures.written

pub returns-then-count-gt20-clause-steps : goal.returns-then-count-gt20-clause-steps
returns-then-count-gt20-clause-steps c =
    let steps = twenty_steps c.args.count (omega arith) c.requires.most in
    rw steps (omega (arith, c.write_1_or_2.ensures.steps, c.write_20.ensures.steps))

pub returns-then-count-eq20-clause-written : goal.returns-then-count-eq20-clause-written
returns-then-count-eq20-clause-written c =
    let n = c.args.n in
    let twenty = c.if-count-eq20.true in
    let few : n < 62 ^ 20 = fits_more n c.args.count 20 c.requires.fits (omega (arith, twenty)) in
    let cut = c.divide_by_62_20-high in
    let whole : cut.result.1 * 62 ^ 10 / 2 ^ 64 * 62 ^ 10 + cut.result.2 * 62 ^ 10 / 2 ^ 64 ≡ n = omega (arith, few, cut.ensures.remainder) in
    rw twenty (rw whole at c.write_20-then-count-eq20.ensures.written)

pub returns-then-count-eq20-clause-steps : goal.returns-then-count-eq20-clause-steps
returns-then-count-eq20-clause-steps c =
    rw (c.if-count-eq20.true, steps_of_20) c.write_20-then-count-eq20.ensures.steps

pub returns-else-count-eq20-clause-written : goal.returns-else-count-eq20-clause-written
returns-else-count-eq20-clause-written c =
    let count = c.args.count in
    let cut = c.divide_by_62_10-high.ensures in
    let B = c.args.tables.now.letters in
    let both : count - 10 + 10 ≡ count = omega (arith, c.requires.least) in
    let back = c.write_10 in
    let front = c.write_up_to_9 in
    let join = back_on B (count - 10) 10 count c.args.n _ _ both cut.quotient cut.remainder in
    join c.args.buf.now back.new.buf front.new.buf c.requires.room back.ensures.written front.ensures.written

pub returns-else-count-eq20-clause-steps : goal.returns-else-count-eq20-clause-steps
returns-else-count-eq20-clause-steps c =
    let steps = ten_steps c.args.count c.requires.least (omega arith) in
    rw steps (omega (arith, c.write_up_to_9.ensures.steps, c.write_10.ensures.steps))
