use Rattle.std.proofs.Common.{refl}
use Rattle.base62.specs.Alphabet.{digit_of, alternative}
use Rattle.base62.specs.Tables.{digits_of_bytes}
use Rattle.base62.proofs.AlphabetLemmas.{alternative_is_alphabet}
use Rattle.base62.proofs.alphabet.tables.alternative_tables.Goals as goal

pub returns-clause-tables : goal.returns-clause-tables
unfolding alternative digit_of digits_of_bytes
returns-clause-tables c = record { alphabet = alternative_is_alphabet; digits = refl }

pub returns-clause-letters : goal.returns-clause-letters
unfolding alternative
returns-clause-letters c = refl
