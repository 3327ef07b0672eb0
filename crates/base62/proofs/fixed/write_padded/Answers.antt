use Rattle.std.proofs.Common.{◌≡◌, ◌+◌, ◌-◌, length, replicate, rules, arith}
use Rattle.base62.specs.Alphabet.{zero_letter}
use Rattle.base62.proofs.WidthLemmas.{zeros_and_written}
use Rattle.base62.proofs.fixed.write_padded.Goals as goal

pub returns : goal.returns
returns c =
    let B = c.args.tables.now.letters in
    let k = length c.args.places.now - c.args.count in
    let zeros : c.fill.new.self ≡ replicate k (zero_letter B) = search rules in
    let both : k + c.args.count ≡ length c.args.places.now = omega arith in
    let text = zeros_and_written B c.requires.tables.alphabet c.args.n c.args.count k c.fill.new.self c.split_at_mut-zeros.result.1.now c.write_number.new.buf in
    let is = text zeros c.write_number.ensures.written c.requires.count (omega (arith, c.split_at_mut-zeros.ensures.back_len)) in
    rw both at is
