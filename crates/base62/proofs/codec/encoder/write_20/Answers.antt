use Rattle.std.proofs.Common.{◌+◌, ◌*◌, ◌/◌, ◌^◌, ◌<◌, refl, sym, arith}
use Rattle.std.proofs.lemmas.Nat.{div-mul-add, mod-mul-add}
use Rattle.base62.proofs.WritingLemmas.{back_on}
use Rattle.base62.proofs.codec.encoder.write_20.Goals as goal

pub returns-clause-written : goal.returns-clause-written
returns-clause-written c =
    let front = c.args.high * 62 ^ 10 / 2 ^ 64 in
    let back = c.args.low * 62 ^ 10 / 2 ^ 64 in
    let small : back < 62 ^ 10 = omega arith in
    let quotient = sym (div-mul-add front (62 ^ 10) back small) in
    let remainder = sym (mod-mul-add front (62 ^ 10) back small) in
    let join = back_on c.args.tables.now.letters 10 10 20 (front * 62 ^ 10 + back) front back refl quotient remainder in
    join c.args.buf.now c.write_10.new.buf _ c.requires.room c.write_10.ensures.written c.write_10-2.ensures.written
