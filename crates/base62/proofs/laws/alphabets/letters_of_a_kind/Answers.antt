use Rattle.std.proofs.Common.{◌≡◌, true}
use Rattle.std.proofs.lemmas.List.Sums.{AllPass-from_list_all}
use Rattle.base62.proofs.LetterLemmas.{letters_keep}
use Rattle.base62.proofs.laws.alphabets.letters_of_a_kind.Goals as goal

pub returns-clause-passed : goal.returns-clause-passed
returns-clause-passed c = λ p text. letters_keep c.args.alphabet.now text (λ b. p b ≡ true)

pub returns-clause-tested : goal.returns-clause-tested
returns-clause-tested c = λ p text test. letters_keep c.args.alphabet.now text (λ b. p b ≡ true) (AllPass-from_list_all p c.args.alphabet.now test)
