use Rattle.std.proofs.Common.{◌≡◌, ◌^◌, ◌-◌, codes, refl, inl, inr, lit≤, arith}
use Rattle.base62.specs.Alphabet.{standard}
use Rattle.base62.specs.Canonical.{IsCanonical}
use Rattle.base62.proofs.AlphabetLemmas.{standard_is_alphabet}
use Rattle.base62.proofs.FixedLemmas.{digit_count_is, digit_count_fits, digit_count_some, digit_count_exact}
use Rattle.base62.proofs.LiteralLemmas.{denotes_by, canonical_by, canonical_1337, fits_1337, too_long_1337}
use Rattle.base62.proofs.OnLiterals.{base62_on_literals}
use Rattle.base62.proofs.model.texts.lengths_by_example.Goals as goal

pub returns-clause-just_fits : goal.returns-clause-just_fits
returns-clause-just_fits c = fits_1337

pub returns-clause-room_to_spare : goal.returns-clause-room_to_spare
returns-clause-room_to_spare c = (codes "LZ", canonical_1337, lit≤ tt)

pub returns-clause-one_letter_fewer : goal.returns-clause-one_letter_fewer
returns-clause-one_letter_fewer c = too_long_1337

pub returns-clause-no_room : goal.returns-clause-no_room
returns-clause-no_room c = λ h. omega (arith, h.1.denotes.nonempty, h.2)

pub returns-clause-zero : goal.returns-clause-zero
returns-clause-zero c = digit_count_is 0 1 (lit≤ tt) (lit≤ tt) (inl refl)

pub returns-clause-one_letter : goal.returns-clause-one_letter
returns-clause-one_letter c = digit_count_is 61 1 (lit≤ tt) (lit≤ tt) (inl refl)

pub returns-clause-two_letters : goal.returns-clause-two_letters
returns-clause-two_letters c = digit_count_is 62 2 (lit≤ tt) (lit≤ tt) (inr (lit≤ tt))

pub returns-clause-greatest : goal.returns-clause-greatest
returns-clause-greatest c = digit_count_is (2 ^ 128 - 1) 22 (lit≤ tt) (lit≤ tt) (inr (lit≤ tt))

pub returns-clause-no_letter : goal.returns-clause-no_letter
returns-clause-no_letter c = λ has. omega (arith, digit_count_some standard standard_is_alphabet 0 0 has)

pub returns-clause-too_few : goal.returns-clause-too_few
returns-clause-too_few c = λ has. omega (arith, digit_count_fits standard standard_is_alphabet 62 1 has)

-- the text of 62 has two letters, and each of its canonical texts as many
two_letters : IsCanonical standard (codes "10") 62
unfolding base62_on_literals
two_letters = canonical_by standard standard_is_alphabet (codes "10") 62 (denotes_by standard (codes "10") 62 (omega arith) refl refl) (lit≤ tt)

pub returns-clause-too_many : goal.returns-clause-too_many
returns-clause-too_many c = λ has. let same : 2 ≡ 3 = digit_count_exact standard standard_is_alphabet 62 3 has (codes "10") two_letters in omega (arith, same)

pub returns-clause-greatest_too_few : goal.returns-clause-greatest_too_few
returns-clause-greatest_too_few c = λ has. omega (arith, digit_count_fits standard standard_is_alphabet (2 ^ 128 - 1) 21 has)
