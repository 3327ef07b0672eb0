use Rattle.std.proofs.Common.{◌≡◌, codes, unwrap_or, refl, ap, lit≤, arith}
use Rattle.std.specs.Result.{result_ok}
use Rattle.base62.specs.Alphabet.{standard}
use Rattle.base62.proofs.AlphabetLemmas.{standard_is_alphabet}
use Rattle.base62.proofs.OnLiterals.{base62_on_literals}
use Rattle.base62.proofs.CanonicalDecodingLemmas.{reads_refused, reads_leading, reads_number}
use Rattle.base62.proofs.UuidLemmas.{canonical_decoded, canonical_refused}
use Rattle.base62.proofs.model.uuids.canonical_uuids_by_example.Goals as goal

pub returns-clause-decoded : goal.returns-clause-decoded
unfolding base62_on_literals
returns-clause-decoded c = canonical_decoded standard (codes "LZ") 1337 (lit≤ tt) (reads_number standard (codes "LZ") standard_is_alphabet 1337 refl (λ _ same. cc))

pub returns-clause-zero_in_front : goal.returns-clause-zero_in_front
unfolding base62_on_literals
returns-clause-zero_in_front c = canonical_refused standard (codes "0LZ") _ (reads_leading standard (codes "0LZ") standard_is_alphabet 1337 refl (lit≤ tt) refl)

pub returns-clause-empty : goal.returns-clause-empty
unfolding base62_on_literals
returns-clause-empty c = canonical_refused standard _ _ (reads_refused standard _ standard_is_alphabet _ refl)

pub returns-clause-exchanged : goal.returns-clause-exchanged
unfolding base62_on_literals
returns-clause-exchanged c = λ h. let same : 1337 ≡ 14597 = ap (λ answer. unwrap_or (result_ok answer) 0) (h.back _ refl) in omega (arith, same)

pub returns-clause-accepted_zeros : goal.returns-clause-accepted_zeros
unfolding base62_on_literals
returns-clause-accepted_zeros c = λ h. let none = h.leading 1337 refl (lit≤ tt) refl in cc

pub returns-clause-refused_uuid : goal.returns-clause-refused_uuid
unfolding base62_on_literals
returns-clause-refused_uuid c = λ h. let zero = (h.zeros refl).2 in cc

pub returns-clause-another_fault : goal.returns-clause-another_fault
unfolding base62_on_literals
returns-clause-another_fault c = λ h. let empty = h.refused _ refl in cc
