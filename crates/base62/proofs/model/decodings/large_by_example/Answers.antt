use Rattle.std.proofs.Common.{codes, refl, lit≤}
use Rattle.std.proofs.lemmas.List.Sums.{AllPass-from_list_all}
use Rattle.base62.specs.Alphabet.{standard, is_letter}
use Rattle.base62.proofs.OnLiterals.{base62_on_literals}
use Rattle.base62.proofs.model.decodings.large_by_example.Goals as goal

pub returns-clause-wrapped : goal.returns-clause-wrapped
unfolding base62_on_literals
returns-clause-wrapped c = λ h. let e = h (AllPass-from_list_all (is_letter standard) (codes "7n42DGM5Tflk9n8mt7Fhc8") refl) (lit≤ tt) in cc

pub returns-clause-zeros_counted : goal.returns-clause-zeros_counted
unfolding base62_on_literals
returns-clause-zeros_counted c = λ h. let e = h (AllPass-from_list_all (is_letter standard) (codes "07n42DGM5Tflk9n8mt7Fhc8") refl) (lit≤ tt) in cc
