use Rattle.base62.proofs.PowerLemmas.{fits_more}
use Rattle.base62.proofs.WritingLemmas.{ends_written}
use Rattle.base62.proofs.codec.encoder.write_1_or_2.Goals as goal

pub pair-first-requires : goal.pair-first-requires
pair-first-requires c = fits_more c.args.x c.args.count 2 c.requires.fits c.requires.most

pub returns-clause-written : goal.returns-clause-written
returns-clause-written c =
    let h = c.requires in
    let pair = c.pair-first.ensures in
    ends_written c.args.tables.now.letters c.args.buf.now c.args.count c.args.x _ _ h.least h.most h.room h.fits pair.first pair.second
