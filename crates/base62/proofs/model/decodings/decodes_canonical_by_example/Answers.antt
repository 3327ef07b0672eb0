use Rattle.std.proofs.Common.{codes, refl, lit≤, arith}
use Rattle.base62.specs.Alphabet.{standard}
use Rattle.base62.proofs.AlphabetLemmas.{standard_is_alphabet}
use Rattle.base62.proofs.OnLiterals.{base62_on_literals}
use Rattle.base62.proofs.CanonicalDecodingLemmas.{reads_refused, reads_leading, reads_number}
use Rattle.base62.proofs.model.decodings.decodes_canonical_by_example.Goals as goal

pub returns-clause-number : goal.returns-clause-number
unfolding base62_on_literals
returns-clause-number c = reads_number standard (codes "LZ") standard_is_alphabet 1337 refl (λ _ same. cc)

pub returns-clause-one_zero : goal.returns-clause-one_zero
unfolding base62_on_literals
returns-clause-one_zero c = reads_number standard (codes "0") standard_is_alphabet 0 refl (λ more _. omega (arith, more))

pub returns-clause-zero_in_front : goal.returns-clause-zero_in_front
unfolding base62_on_literals
returns-clause-zero_in_front c = reads_leading standard (codes "0LZ") standard_is_alphabet 1337 refl (lit≤ tt) refl

pub returns-clause-zeros_alone : goal.returns-clause-zeros_alone
unfolding base62_on_literals
returns-clause-zeros_alone c = reads_leading standard (codes "00") standard_is_alphabet 0 refl (lit≤ tt) refl

pub returns-clause-bad_behind_zero : goal.returns-clause-bad_behind_zero
unfolding base62_on_literals
returns-clause-bad_behind_zero c = reads_refused standard (codes "0!") standard_is_alphabet _ refl

pub returns-clause-empty : goal.returns-clause-empty
unfolding base62_on_literals
returns-clause-empty c = reads_refused standard _ standard_is_alphabet _ refl
