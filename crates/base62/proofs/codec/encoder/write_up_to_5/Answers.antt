use Rattle.std.proofs.Common.{◌-◌, arith}
use Rattle.base62.proofs.PowerLemmas.{quotient_fits}
use Rattle.base62.proofs.WritingLemmas.{back_first}
use Rattle.base62.proofs.codec.encoder.write_up_to_5.Goals as goal

pub write_1_or_2-requires-then-count-gt2-clause-fits : goal.write_1_or_2-requires-then-count-gt2-clause-fits
write_1_or_2-requires-then-count-gt2-clause-fits c = quotient_fits c.args.n (c.args.count - 2) 2 c.args.count (omega arith) c.requires.fits

pub returns-then-count-gt4-clause-written : goal.returns-then-count-gt4-clause-written
returns-then-count-gt4-clause-written c =
    let join = back_first c.args.tables.now.letters (c.args.count - 4) 4 c.args.count c.args.n (omega arith) in
    join c.args.buf.now c.write_4.new.buf _ c.requires.room c.write_4.ensures.written c.write_1_or_2.ensures.written

pub returns-then-count-gt2-clause-written : goal.returns-then-count-gt2-clause-written
returns-then-count-gt2-clause-written c =
    let join = back_first c.args.tables.now.letters (c.args.count - 2) 2 c.args.count c.args.n (omega arith) in
    join c.args.buf.now c.write_2.new.buf _ c.requires.room c.write_2.ensures.written c.write_1_or_2-then-count-gt2.ensures.written
