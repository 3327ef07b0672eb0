use Rattle.std.proofs.Common.{◌≡◌, codes, unwrap_or, refl, ap, lit≤, arith}
use Rattle.std.specs.Result.{result_ok}
use Rattle.base62.specs.Alphabet.{standard}
use Rattle.base62.proofs.AlphabetLemmas.{standard_is_alphabet}
use Rattle.base62.proofs.OnLiterals.{base62_on_literals}
use Rattle.base62.proofs.UuidLemmas.{number_decoded}
use Rattle.base62.proofs.model.uuids.decoded_uuids_by_example.Goals as goal

pub returns-clause-decoded : goal.returns-clause-decoded
unfolding base62_on_literals
returns-clause-decoded c = number_decoded standard standard_is_alphabet (codes "LZ") 1337 (lit≤ tt) refl

pub returns-clause-exchanged : goal.returns-clause-exchanged
unfolding base62_on_literals
returns-clause-exchanged c = λ h. let same : 1337 ≡ 14597 = ap (λ answer. unwrap_or (result_ok answer) 0) (h.number _ refl) in omega (arith, same)

pub returns-clause-accepted : goal.returns-clause-accepted
unfolding base62_on_literals
returns-clause-accepted c = λ h. let none = h.number _ refl in cc

pub returns-clause-refused : goal.returns-clause-refused
unfolding base62_on_literals
returns-clause-refused c = λ h. let is = h.refused _ refl in cc
