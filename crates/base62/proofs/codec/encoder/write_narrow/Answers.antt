use Rattle.std.proofs.Common.{◌-◌, ◌^◌, ◌<◌, ◌≤◌, length, set, arith}
use Rattle.std.proofs.lemmas.List.{length-set, drop-set-lt}
use Rattle.base62.proofs.PowerLemmas.{fits_more}
use Rattle.base62.proofs.WritingLemmas.{front_first, letter_front}
use Rattle.base62.proofs.StepsLemmas.{short_steps, narrow_steps}
use Rattle.base62.proofs.codec.encoder.write_narrow.Goals as goal

pub returns-then-count-lt10-clause-steps : goal.returns-then-count-lt10-clause-steps
returns-then-count-lt10-clause-steps c =
    rw (short_steps c.args.count c.requires.least (omega arith)) c.write_up_to_9.ensures.steps

pub returns-else-count-lt10-clause-steps : goal.returns-else-count-lt10-clause-steps
returns-else-count-lt10-clause-steps c =
    let steps = narrow_steps c.args.count (omega arith) c.requires.most in
    rw steps (omega (arith, c.letter.ensures.step, c.write_10.ensures.steps))

pub returns-else-count-lt10-clause-written : goal.returns-else-count-lt10-clause-written
returns-else-count-lt10-clause-written c =
    let B = c.args.tables.now.letters in
    let n = c.args.n in
    let old = c.args.buf.now in
    let count = c.args.count in
    let letter = c.letter.result in
    let cut = c.divide_narrow_by_62_10-first in
    let few : n < 62 ^ 11 = fits_more n count 11 c.requires.fits c.requires.most in
    let small : cut.result.0 < 62 = omega (arith, few) in
    let one : count - 10 ≤ 1 = omega (arith, c.requires.most) in
    let some : 1 ≤ length old = omega (arith, c.requires.room) in
    let front = letter_front B old (count - 10) cut.result.0 letter some one small c.letter.ensures.letter in
    let others = drop-set-lt count old 0 letter (omega arith) in
    let join = front_first B (count - 10) 10 count n _ _ (omega arith) cut.ensures.quotient cut.ensures.remainder in
    let same = length-set old 0 letter in
    join old (set old 0 letter) c.write_10.new.buf c.requires.room c.write_10.ensures.written same front others
