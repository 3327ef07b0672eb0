use Rattle.std.proofs.Common.{refl}
use Rattle.base62.specs.Alphabet.{standard}
use Rattle.base62.proofs.AlphabetLemmas.{standard_is_alphabet}
use Rattle.base62.proofs.OnLiterals.{base62_on_literals}
use Rattle.base62.proofs.RangeLemmas.{tells_range}
use Rattle.base62.proofs.model.prefixes.tells_range_by_example.Goals as goal

pub returns-clause-some : goal.returns-clause-some
unfolding base62_on_literals
returns-clause-some c = tells_range standard standard_is_alphabet _ _ _ refl

pub returns-clause-none : goal.returns-clause-none
unfolding base62_on_literals
returns-clause-none c = tells_range standard standard_is_alphabet _ _ _ refl

pub returns-clause-no_width : goal.returns-clause-no_width
unfolding base62_on_literals
returns-clause-no_width c = tells_range standard standard_is_alphabet _ _ _ refl

pub returns-clause-wide : goal.returns-clause-wide
unfolding base62_on_literals
returns-clause-wide c = tells_range standard standard_is_alphabet _ _ _ refl

pub returns-clause-bad_byte : goal.returns-clause-bad_byte
unfolding base62_on_literals
returns-clause-bad_byte c = tells_range standard standard_is_alphabet _ _ _ refl
