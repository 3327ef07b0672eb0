use Rattle.base62.specs.Alphabet.{alternative}
use Rattle.base62.specs.Steps.{DecodesCounted}
use Rattle.base62.proofs.AlphabetLemmas.{alternative_is_alphabet}
use Rattle.base62.proofs.ResultLemmas.{decodes}
use Rattle.base62.proofs.codec.decode_alternative_counted.Goals as goal

pub returns-clause-counted : goal.returns-clause-counted
returns-clause-counted c = rw c.alternative_tables.ensures.letters at c.decode_inlined_over.ensures

pub returns-clause-decodes : goal.returns-clause-decodes
returns-clause-decodes c =
    let counted : DecodesCounted alternative c.args.input.now c.args.work.now c.decode_inlined_over.new.work c.decode_inlined_over.result =
    rw c.alternative_tables.ensures.letters at c.decode_inlined_over.ensures in
    decodes alternative alternative_is_alphabet c.args.input.now c.decode_inlined_over.result counted.answer
