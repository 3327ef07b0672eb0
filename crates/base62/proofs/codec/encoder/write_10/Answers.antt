use Rattle.std.proofs.Common.{refl}
use Rattle.base62.proofs.FractionLemmas.{fraction_on}
use Rattle.base62.proofs.codec.encoder.write_10.Goals as goal

pub returns-clause-written : goal.returns-clause-written
returns-clause-written c =
    let join = fraction_on c.args.fraction _ 5 5 10 refl c.after_5.ensures c.args.tables.now.letters in
    join c.args.buf.now c.write_5.new.buf _ c.requires.room c.write_5-2.ensures.written c.write_5.ensures.written
