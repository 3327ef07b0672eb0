use Rattle.std.proofs.Common.{◌+◌, ◌*◌, ◌/◌, ◌^◌, ◌≡◌, set, refl, arith}
use Rattle.base62.proofs.FractionLemmas.{fraction_on}
use Rattle.base62.proofs.WritingLemmas.{put_from, letter_written}
use Rattle.base62.proofs.codec.encoder.write_5.Goals as goal

pub returns-clause-written : goal.returns-clause-written
returns-clause-written c =
    let B = c.args.tables.now.letters in
    let f = c.args.fraction in
    let old = c.args.buf.now in
    let room = c.requires.room in
    let digit = c.next_digit-first in
    let third = c.next_digit-third in
    let g = digit.result.1 in
    let h = third.result.1 in
    let one = set old 0 c.letter.result in
    let letter = letter_written B old digit.result.0 _ (omega (arith, room)) (omega arith) c.letter.ensures.letter in
    let front = rw digit.ensures.digit at letter in
    let pair : c.next_digit-second.result.0 * 62 + third.result.0 ≡ g * 62 ^ 2 / 2 ^ 64 = omega arith in
    let pair-2 : c.next_digit-fourth.result.0 * 62 + c.first_digit.result ≡ h * 62 ^ 2 / 2 ^ 64 =
    omega (arith, c.first_digit.ensures) in
    let two = rw pair at c.write_pair.ensures.written in
    let two-2 = rw pair-2 at c.write_pair-2.ensures.written in
    let three = fraction_on f g 1 2 3 refl digit.ensures.after B old one _ (omega (arith, room)) two front in
    fraction_on f h 3 2 5 refl (omega arith) B old (put_from 1 one c.write_pair.new.buf) _ room two-2 three
