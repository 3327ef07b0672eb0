use Rattle.std.proofs.Common.{[], codes, refl}
use Rattle.base62.specs.Alphabet.{standard}
use Rattle.base62.proofs.AlphabetLemmas.{standard_is_alphabet}
use Rattle.base62.proofs.ResultLemmas.{decodes}
use Rattle.base62.proofs.OnLiterals.{base62_on_literals}
use Rattle.base62.proofs.model.decodings.decodes_by_example.Goals as goal

pub returns-clause-number : goal.returns-clause-number
unfolding base62_on_literals
returns-clause-number c = decodes standard standard_is_alphabet (codes "LZ") _ refl

pub returns-clause-empty : goal.returns-clause-empty
unfolding base62_on_literals
returns-clause-empty c = decodes standard standard_is_alphabet [] _ refl

pub returns-clause-bad_byte : goal.returns-clause-bad_byte
unfolding base62_on_literals
returns-clause-bad_byte c = decodes standard standard_is_alphabet (codes "0!") _ refl

pub returns-clause-overflow : goal.returns-clause-overflow
unfolding base62_on_literals
returns-clause-overflow c = decodes standard standard_is_alphabet (codes "7n42DGM5Tflk9n8mt7Fhc8") _ refl
