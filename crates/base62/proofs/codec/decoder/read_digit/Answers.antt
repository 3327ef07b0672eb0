use Rattle.std.proofs.Common.{◌+◌, get_or}
use Rattle.base62.proofs.PartLemmas.{read_one, refused_one}
use Rattle.base62.proofs.codec.decoder.read_digit.Goals as goal

pub returns-then-digit-gt61-clause-read : goal.returns-then-digit-gt61-clause-read
returns-then-digit-gt61-clause-read c =
    let b = get_or c.args.part.now c.args.i 0 in
    refused_one c.args.tables.now.letters c.requires.tables.alphabet b (c.args.start + c.args.i) c.args.work.now c.digit-digit.new.work
    (rw c.digit-digit.ensures.digit at c.if-digit-gt61.true) c.digit-digit.ensures.step

pub returns-clause-read : goal.returns-clause-read
returns-clause-read c =
    let b = get_or c.args.part.now c.args.i 0 in
    rw c.digit-digit.ensures.digit (read_one c.args.tables.now.letters b c.args.work.now c.digit-digit.new.work (rw c.digit-digit.ensures.digit at c.if-digit-gt61.false) c.digit-digit.ensures.step)
