use Rattle.base62.proofs.PrefixLemmas.{prefix_letters, in_interval, begins_with, none_inside, no_ends, ends_are, begins_between}
use Rattle.base62.proofs.laws.order.prefixes_of_texts.Goals as goal

pub returns-clause-letters : goal.returns-clause-letters
returns-clause-letters c = prefix_letters

pub returns-clause-begins : goal.returns-clause-begins
returns-clause-begins c = λ B ok w prefix text n small letters is. (in_interval B ok w prefix text n small is, begins_with B ok w prefix text n letters is)

pub returns-clause-none : goal.returns-clause-none
returns-clause-none c = λ B ok w prefix letters. (none_inside B ok w prefix, no_ends B ok w prefix)

pub returns-clause-ends : goal.returns-clause-ends
returns-clause-ends c = λ B ok w prefix least greatest letters. ends_are B ok w prefix least greatest

pub returns-clause-between : goal.returns-clause-between
returns-clause-between c = λ B ok up w prefix. begins_between B ok w prefix up
