use Rattle.std.proofs.Common.{◌≡◌, ◌<◌, refl, arith}
use Rattle.base62.proofs.model.alphabets.no_alphabets_by_example.Goals as goal

pub returns-clause-first_two : goal.returns-clause-first_two
returns-clause-first_two c = λ h. let e : 0 ≡ 1 = h.distinct 0 1 (omega arith) (omega arith) refl in omega (arith, e)

pub returns-clause-last_two : goal.returns-clause-last_two
returns-clause-last_two c = λ h. let e : 60 ≡ 61 = h.distinct 60 61 (omega arith) (omega arith) refl in omega (arith, e)

pub returns-clause-first_and_last : goal.returns-clause-first_and_last
returns-clause-first_and_last c = λ h. let e : 0 ≡ 61 = h.distinct 0 61 (omega arith) (omega arith) refl in omega (arith, e)

pub returns-clause-no_byte : goal.returns-clause-no_byte
returns-clause-no_byte c = λ h. let e : 256 < 256 = h.bytes 61 0 (omega arith) in omega (arith, e)
