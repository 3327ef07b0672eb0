use Rattle.base62.proofs.DecodingLemmas.{decodes_long}
use Rattle.base62.proofs.codec.decoder.decode_after_zeros.Goals as goal

pub returns-then-after_zeros-gt-MAX_DIGITS : goal.returns-then-after_zeros-gt-MAX_DIGITS
returns-then-after_zeros-gt-MAX_DIGITS c =
    let some = c.requires.some in
    let after = rw c.requires.zeros at c.split_at.ensures.back in
    decodes_long c.args.tables.now.letters c.args.input.now c.args.work.now some (rw after at c.if-after_zeros-gt-MAX_DIGITS.true)
