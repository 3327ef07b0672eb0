use Rattle.std.proofs.Common.{length, ◌≤◌, Ok, Err, arith}
use Rattle.std.proofs.lemmas.Result.{err_from_is_err_and}
use Rattle.base62.proofs.DecodingLemmas.{decodes_few}
use Rattle.base62.proofs.codec.decoder.decode_few.Goals as goal

pub returns-in_err-read_up_to_10 : goal.returns-in_err-read_up_to_10
returns-in_err-read_up_to_10 c =
    let some = c.requires.some in
    let zeros = c.requires.zeros in
    let after = rw zeros at c.split_at.ensures.back in
    let below : length c.split_at.result.1.now ≤ 10 = omega (arith, c.split_at.ensures.back_len, c.requires.few) in
    let few = rw after at below in
    let p = err_from_is_err_and c.from_residual.result c.from_residual.ensures.1 in
    rw (p.1, p.2) (decodes_few c.args.tables.now.letters c.args.input.now c.requires.tables.alphabet some (omega (arith, few)) c.args.work.now _
    (Err c.in_err-read_up_to_10.field-0.0) (omega (arith, few)) (rw (after, zeros) at c.in_err-read_up_to_10.ensures))

pub returns : goal.returns
returns c =
    let some = c.requires.some in
    let zeros = c.requires.zeros in
    let after = rw zeros at c.split_at.ensures.back in
    let below : length c.split_at.result.1.now ≤ 10 = omega (arith, c.split_at.ensures.back_len, c.requires.few) in
    let few = rw after at below in
    decodes_few c.args.tables.now.letters c.args.input.now c.requires.tables.alphabet some (omega (arith, few)) c.args.work.now _
    (Ok c.in_ok-read_up_to_10.field-0) (omega (arith, few)) (rw after at c.in_ok-read_up_to_10.ensures)
