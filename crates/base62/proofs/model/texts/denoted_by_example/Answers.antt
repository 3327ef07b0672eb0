use Rattle.base62.proofs.LiteralLemmas.{denotes_above}
use Rattle.base62.proofs.model.texts.denoted_by_example.Goals as goal

pub returns-clause-above : goal.returns-clause-above
returns-clause-above c = denotes_above
