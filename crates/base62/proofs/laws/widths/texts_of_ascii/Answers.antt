use Rattle.base62.proofs.LetterLemmas.{letters_ascii}
use Rattle.base62.proofs.laws.widths.texts_of_ascii.Goals as goal

pub returns-clause-letters : goal.returns-clause-letters
returns-clause-letters c = λ B text ascii letters. letters_ascii B ascii text letters
