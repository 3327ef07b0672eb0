use Rattle.base62.proofs.OrderLemmas.{not_after_iff}
use Rattle.base62.proofs.laws.order.order_of_texts.Goals as goal

pub returns-clause-not_after : goal.returns-clause-not_after
returns-clause-not_after c = λ B ok up w a b m n p q. (not_after_iff B ok up w a b m n p q).1

pub returns-clause-at_most : goal.returns-clause-at_most
returns-clause-at_most c = λ B ok up w a b m n p q. (not_after_iff B ok up w a b m n p q).0
