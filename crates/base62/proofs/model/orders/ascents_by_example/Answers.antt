use Rattle.std.proofs.Common.{◌<◌, refl, arith}
use Rattle.std.specs.List.{range_with_len}
use Rattle.base62.specs.Alphabet.{alternative}
use Rattle.base62.proofs.OrderLemmas.{ascends_by_test}
use Rattle.base62.proofs.model.orders.ascents_by_example.Goals as goal

pub returns-clause-from_33 : goal.returns-clause-from_33
returns-clause-from_33 c = ascends_by_test (range_with_len 33 62) refl

pub returns-clause-last_two_equal : goal.returns-clause-last_two_equal
returns-clause-last_two_equal c = λ h. let less : 93 < 93 = h 60 (omega arith) in omega (arith, less)

pub returns-clause-last_descends : goal.returns-clause-last_descends
returns-clause-last_descends c = λ h. let less : 93 < 33 = h 60 (omega arith) in omega (arith, less)

pub returns-clause-alternative : goal.returns-clause-alternative
unfolding alternative
returns-clause-alternative c = λ h. let less : 122 < 65 = h 35 (omega arith) in omega (arith, less)
