use Rattle.base62.proofs.EncodingLemmas.{encodes, encodes_none}
use Rattle.base62.proofs.codec.encoder.encode_over.Goals as goal

pub returns-then-buf-count : goal.returns-then-buf-count
returns-then-buf-count c =
    let count = c.digit_count-count.ensures in
    let answer = encodes_none c.args.tables.now.letters c.requires.alphabet c.args.n _ c.ranges.n.fits count.counted count.most in
    answer c.args.buf.now c.args.work.now c.if-buf-count.true

pub returns : goal.returns
returns c =
    let count = c.digit_count-count.ensures in
    let text = c.write_number in
    let answer = encodes c.args.tables.now.letters c.requires.alphabet c.args.n _ c.ranges.n.fits count.counted count.most in
    answer c.args.buf.now text.new.buf c.args.work.now text.new.work c.if-buf-count.false text.ensures.written text.ensures.steps
