use Rattle.std.proofs.Common.{sym, ◌∙◌}
use Rattle.base62.proofs.WidthLemmas.{one_fixed}
use Rattle.base62.proofs.laws.widths.fixed_texts_of_two.Goals as goal

pub returns-clause-texts : goal.returns-clause-texts
returns-clause-texts c = λ p q same. one_fixed c.args.alphabet.now c.letters_are_distinct.ensures c.args.width c.args.m c.args.first.now c.args.second.now p (rw (sym same) at q)

pub returns-clause-numbers : goal.returns-clause-numbers
returns-clause-numbers c = λ p q same. sym p.denotes.value_is ∙ (rw (sym same) at q.denotes.value_is)
