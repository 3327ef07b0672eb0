use Rattle.std.proofs.Common.{length, Ok, arith}
use Rattle.base62.proofs.PartLemmas.{reads_alone, reads_cut}
use Rattle.base62.proofs.codec.decoder.read_11_or_12.Goals as goal

pub returns : goal.returns
returns c =
    let cut = c.split_at.ensures in
    let later = c.split_at.result.1.now in
    rw c.power.ensures (reads_cut c.args.tables.now.letters c.args.part.now c.split_at.result.0.now 10 c.args.start c.args.work.now cut.front later _ _
    c.in_ok-high.high (length later) (Ok c.in_ok-low.low) cut.back (omega (arith, cut.back_len)) c.in_ok-high.ensures
    (reads_alone c.args.tables.now.letters later _ _ _ (Ok c.in_ok-low.low) c.in_ok-low.ensures))
