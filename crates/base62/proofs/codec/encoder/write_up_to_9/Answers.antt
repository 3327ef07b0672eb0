use Rattle.std.proofs.Common.{◌-◌, ◌^◌, ◌<◌, arith}
use Rattle.base62.proofs.PowerLemmas.{fits_more, quotient_fits}
use Rattle.base62.proofs.WritingLemmas.{back_first}
use Rattle.base62.proofs.codec.encoder.write_up_to_9.Goals as goal

pub overflow_cast-quotient-then-count-gt4 : goal.overflow_cast-quotient-then-count-gt4
overflow_cast-quotient-then-count-gt4 c =
    let few : c.args.n < 62 ^ 9 = fits_more c.args.n c.args.count 9 c.requires.fits c.requires.most in
    omega (arith, few)

pub write_up_to_5-requires-clause-fits : goal.write_up_to_5-requires-clause-fits
write_up_to_5-requires-clause-fits c = quotient_fits c.args.n (c.args.count - 4) 4 c.args.count (omega arith) c.requires.fits

pub overflow_cast-n : goal.overflow_cast-n
overflow_cast-n c =
    let few : c.args.n < 62 ^ 4 = fits_more c.args.n c.args.count 4 c.requires.fits (omega arith) in
    omega (arith, few)

pub returns-then-count-gt4-clause-written : goal.returns-then-count-gt4-clause-written
returns-then-count-gt4-clause-written c =
    let join = back_first c.args.tables.now.letters (c.args.count - 4) 4 c.args.count c.args.n (omega arith) in
    join c.args.buf.now c.write_4.new.buf _ c.requires.room c.write_4.ensures.written c.write_up_to_5.ensures.written
