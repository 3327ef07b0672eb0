use Rattle.std.proofs.Common.{refl}
use Rattle.base62.specs.Alphabet.{digit_of, standard}
use Rattle.base62.specs.Tables.{digits_of_bytes}
use Rattle.base62.proofs.AlphabetLemmas.{standard_is_alphabet}
use Rattle.base62.proofs.alphabet.tables.standard_tables.Goals as goal

pub returns-clause-tables : goal.returns-clause-tables
unfolding standard digit_of digits_of_bytes
returns-clause-tables c = record { alphabet = standard_is_alphabet; digits = refl }

pub returns-clause-letters : goal.returns-clause-letters
unfolding standard
returns-clause-letters c = refl
