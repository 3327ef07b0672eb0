use Rattle.base62.proofs.ResultLemmas.{answer_tells}
use Rattle.base62.proofs.laws.texts.answer_for.Goals as goal

pub returns : goal.returns
returns c = answer_tells c.args.alphabet.now c.letters_are_distinct.ensures c.args.text.now
