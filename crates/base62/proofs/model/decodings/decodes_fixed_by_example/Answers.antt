use Rattle.std.proofs.Common.{[], codes, refl}
use Rattle.base62.specs.Alphabet.{standard}
use Rattle.base62.proofs.AlphabetLemmas.{standard_is_alphabet}
use Rattle.base62.proofs.OnLiterals.{base62_on_literals}
use Rattle.base62.proofs.FixedDecodingLemmas.{fixed_wrong, fixed_refused, fixed_number}
use Rattle.base62.proofs.model.decodings.decodes_fixed_by_example.Goals as goal

pub returns-clause-number : goal.returns-clause-number
unfolding base62_on_literals
returns-clause-number c = fixed_number standard 5 (codes "000LZ") standard_is_alphabet refl 1337 refl

pub returns-clause-shorter : goal.returns-clause-shorter
returns-clause-shorter c = fixed_wrong standard 5 (codes "LZ") (λ same. cc)

pub returns-clause-longer : goal.returns-clause-longer
returns-clause-longer c = fixed_wrong standard 5 (codes "0000LZ") (λ same. cc)

pub returns-clause-bad_byte : goal.returns-clause-bad_byte
unfolding base62_on_literals
returns-clause-bad_byte c = fixed_refused standard 2 (codes "0!") standard_is_alphabet refl _ refl

pub returns-clause-bad_shorter : goal.returns-clause-bad_shorter
returns-clause-bad_shorter c = fixed_wrong standard 3 (codes "0!") (λ same. cc)

pub returns-clause-no_width : goal.returns-clause-no_width
unfolding base62_on_literals
returns-clause-no_width c = fixed_refused standard 0 [] standard_is_alphabet refl _ refl
