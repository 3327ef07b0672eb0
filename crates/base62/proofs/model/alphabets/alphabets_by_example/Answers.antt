use Rattle.std.proofs.Common.{refl, codes}
use Rattle.std.specs.List.{range_with_len}
use Rattle.base62.proofs.AlphabetLemmas.{alphabet_by_test}
use Rattle.base62.proofs.model.alphabets.alphabets_by_example.Goals as goal

pub returns-clause-small_letters_first : goal.returns-clause-small_letters_first
returns-clause-small_letters_first c = alphabet_by_test (codes "abcdefghijklmnopqrstuvwxyzABCDEFGHIJKLMNOPQRSTUVWXYZ1234567890") refl

pub returns-clause-above_ascii : goal.returns-clause-above_ascii
returns-clause-above_ascii c = alphabet_by_test (range_with_len 194 62) refl

pub returns-clause-from_33 : goal.returns-clause-from_33
returns-clause-from_33 c = alphabet_by_test (range_with_len 33 62) refl
