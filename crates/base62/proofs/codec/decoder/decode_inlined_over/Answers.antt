use Rattle.std.proofs.Common.{sym, ◌∙◌}
use Rattle.std.proofs.lemmas.Bool.{eqb-true}
use Rattle.base62.proofs.DecodingLemmas.{decodes_empty}
use Rattle.base62.proofs.codec.decoder.decode_inlined_over.Goals as goal

pub returns-then-is_empty : goal.returns-then-is_empty
returns-then-is_empty c =
    decodes_empty c.args.tables.now.letters c.args.input.now c.args.work.now (eqb-true _ _ (sym c.is_empty.ensures ∙ c.if-is_empty.true))
