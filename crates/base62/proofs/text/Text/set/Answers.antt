use Rattle.std.proofs.Common.{◌^◌, ◌<◌, arith}
use Rattle.base62.proofs.EncodingLemmas.{encodes}
use Rattle.base62.proofs.text.Text.set.Goals as goal

pub returns : goal.returns
returns g c =
    let count = c.digit_count-len.ensures in
    let text = c.write_number in
    let small : c.number-n.result < 2 ^ 128 = omega arith in
    let encoded = encodes c.args.tables.now.letters c.requires.alphabet c.number-n.result _ small count.counted count.most in
    let answer = (encoded _ text.new.buf _ text.new.work (omega arith) text.ensures.written text.ensures.steps).answer in
    record {
      text = rw (← c.number-n.ensures) answer.text.1;
      back = rw (← c.number-n.ensures) answer.back;
    }
