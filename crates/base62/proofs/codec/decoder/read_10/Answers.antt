use Rattle.std.proofs.Common.{Ok, arith}
use Rattle.base62.proofs.PartLemmas.{reads_cut}
use Rattle.base62.proofs.codec.decoder.read_10.Goals as goal

pub returns : goal.returns
returns c =
    let cut = c.split_at.ensures in
    reads_cut c.args.tables.now.letters c.args.part.now c.split_at.result.0.now 5 c.args.start c.args.work.now cut.front c.split_at.result.1.now _ _
    c.in_ok-high.high 5 (Ok c.in_ok-low.low) cut.back (omega (arith, c.requires.ten)) c.in_ok-high.ensures c.in_ok-low.ensures
