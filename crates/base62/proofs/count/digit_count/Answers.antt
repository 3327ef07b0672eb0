use Rattle.std.proofs.Common.{arith}
use Rattle.base62.specs.Alphabet.{standard}
use Rattle.base62.proofs.AlphabetLemmas.{standard_is_alphabet}
use Rattle.base62.proofs.FixedLemmas.{digit_count_some, digit_count_most}
use Rattle.base62.proofs.count.digit_count.Goals as goal

pub returns-clause-within : goal.returns-clause-within
returns-clause-within c = λ k some fits. digit_count_most standard standard_is_alphabet _ _ c.letter_count.ensures k some fits

pub returns-clause-of_32_bits : goal.returns-clause-of_32_bits
returns-clause-of_32_bits c = λ small. digit_count_most standard standard_is_alphabet _ _ c.letter_count.ensures 6 (omega arith) (omega arith)

pub returns-clause-of_53_bits : goal.returns-clause-of_53_bits
returns-clause-of_53_bits c = λ small. digit_count_most standard standard_is_alphabet _ _ c.letter_count.ensures 9 (omega arith) (omega arith)

pub returns-clause-of_64_bits : goal.returns-clause-of_64_bits
returns-clause-of_64_bits c = λ small. digit_count_most standard standard_is_alphabet _ _ c.letter_count.ensures 11 (omega arith) (omega arith)

pub returns-clause-least : goal.returns-clause-least
returns-clause-least c = digit_count_some standard standard_is_alphabet _ _ c.letter_count.ensures

pub returns-clause-most : goal.returns-clause-most
returns-clause-most c = digit_count_most standard standard_is_alphabet _ _ c.letter_count.ensures 22 (omega arith) (omega (arith, c.ranges.n.fits))
