use Rattle.std.proofs.Common.{◌+◌, ◌*◌, ◌/◌, ◌%◌, ◌≡◌, arith}
use Rattle.base62.proofs.WritingLemmas.{pair_written}
use Rattle.base62.proofs.codec.encoder.write_pair.Goals as goal

pub returns-clause-written : goal.returns-clause-written
returns-clause-written c =
    let number = c.args.first * 62 + c.args.second in
    let quotient : number / 62 ≡ c.args.first = omega arith in
    let remainder : number % 62 ≡ c.args.second = omega arith in
    let pair = c.pair_of_digits-first_letter.ensures in
    let join = pair_written c.args.tables.now.letters c.args.buf.now number _ _ c.requires.room (omega arith) in
    join (rw quotient pair.first) (rw remainder pair.second)
