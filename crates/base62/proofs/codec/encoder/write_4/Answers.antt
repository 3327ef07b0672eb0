use Rattle.std.proofs.Common.{refl}
use Rattle.base62.proofs.WritingLemmas.{back_first}
use Rattle.base62.proofs.codec.encoder.write_4.Goals as goal

pub returns-clause-written : goal.returns-clause-written
returns-clause-written c =
    back_first c.args.tables.now.letters 2 2 4 c.args.x refl c.args.buf.now c.write_2.new.buf _ c.requires.room c.write_2.ensures.written c.write_2-2.ensures.written
