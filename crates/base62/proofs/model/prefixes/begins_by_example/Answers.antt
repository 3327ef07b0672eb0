use Rattle.std.proofs.Common.{◌≡◌, ◌^◌, ◌-◌, [], ◌∷◌, get_or, codes, refl, ap, lit≤, arith}
use Rattle.std.proofs.lemmas.List.Sums.{AllPass-from_list_all}
use Rattle.base62.specs.Alphabet.{standard, is_letter}
use Rattle.base62.specs.Fixed.{IsFixed}
use Rattle.base62.specs.Range.{BeginsTextsOf}
use Rattle.base62.proofs.AlphabetLemmas.{standard_is_alphabet}
use Rattle.base62.proofs.PrefixLemmas.{begins_none, begins_texts, begins_between}
use Rattle.base62.proofs.LiteralLemmas.{fixed_by}
use Rattle.base62.proofs.OrderLemmas.{standard_ascends}
use Rattle.base62.proofs.OnLiterals.{base62_on_literals}
use Rattle.base62.proofs.model.prefixes.begins_by_example.Goals as goal

-- the texts at both ends, and those beside them
below : IsFixed standard 2 (codes "Kz") 1301
unfolding base62_on_literals
below = fixed_by standard 2 (codes "Kz") 1301 refl (omega arith) refl refl

no_number : IsFixed standard 2 (codes "00") 0
unfolding base62_on_literals
no_number = fixed_by standard 2 (codes "00") 0 refl (omega arith) refl refl

least : IsFixed standard 2 (codes "L0") 1302
unfolding base62_on_literals
least = fixed_by standard 2 (codes "L0") 1302 refl (omega arith) refl refl

next : IsFixed standard 2 (codes "L1") 1303
unfolding base62_on_literals
next = fixed_by standard 2 (codes "L1") 1303 refl (omega arith) refl refl

last_but_one : IsFixed standard 2 (codes "Ly") 1362
unfolding base62_on_literals
last_but_one = fixed_by standard 2 (codes "Ly") 1362 refl (omega arith) refl refl

greatest : IsFixed standard 2 (codes "Lz") 1363
unfolding base62_on_literals
greatest = fixed_by standard 2 (codes "Lz") 1363 refl (omega arith) refl refl

above : IsFixed standard 2 (codes "M0") 1364
unfolding base62_on_literals
above = fixed_by standard 2 (codes "M0") 1364 refl (omega arith) refl refl

texts : BeginsTextsOf standard 2 (codes "L") 1302 1363
unfolding base62_on_literals
texts = begins_texts standard standard_is_alphabet 2 (codes "L") 1302 1363 (AllPass-from_list_all (is_letter standard) (codes "L") refl) refl

-- `L` is neither `K` nor `M`
no_K : 75 ∷ [] ≡ codes "L" → ⊥
no_K e = let same : 75 ≡ 76 = ap (λ text. get_or text 0 0) e in omega (arith, same)

no_M : 77 ∷ [] ≡ codes "L" → ⊥
no_M e = let same : 77 ≡ 76 = ap (λ text. get_or text 0 0) e in omega (arith, same)

pub returns-clause-texts : goal.returns-clause-texts
returns-clause-texts c = texts

pub returns-clause-least_less : goal.returns-clause-least_less
returns-clause-least_less c = λ h. no_K ((h.texts 1301 (codes "Kz") (lit≤ tt) below).1 (lit≤ tt, lit≤ tt))

pub returns-clause-least_more : goal.returns-clause-least_more
returns-clause-least_more c = λ h. let less = (h.texts 1302 (codes "L0") (lit≤ tt) least).0 refl in omega (arith, less.0)

pub returns-clause-greatest_less : goal.returns-clause-greatest_less
returns-clause-greatest_less c = λ h. let less = (h.texts 1363 (codes "Lz") (lit≤ tt) greatest).0 refl in omega (arith, less.1)

pub returns-clause-greatest_more : goal.returns-clause-greatest_more
returns-clause-greatest_more c = λ h. no_M ((h.texts 1364 (codes "M0") (lit≤ tt) above).1 (lit≤ tt, lit≤ tt))

pub returns-clause-turned_round : goal.returns-clause-turned_round
returns-clause-turned_round c = λ h. omega (arith, h.some)

-- all texts begin with no letter
all : BeginsTextsOf standard 2 [] 0 3843
unfolding base62_on_literals
all = begins_texts standard standard_is_alphabet 2 [] 0 3843 (AllPass-from_list_all (is_letter standard) [] refl) refl

pub returns-clause-of_no_letter : goal.returns-clause-of_no_letter
returns-clause-of_no_letter c = all

pub returns-clause-of_no_letter_less : goal.returns-clause-of_no_letter_less
returns-clause-of_no_letter_less c = λ h. let less = (h.texts 1363 (codes "Lz") (lit≤ tt) greatest).0 refl in omega (arith, less.1)

pub returns-clause-between_no_letter : goal.returns-clause-between_no_letter
returns-clause-between_no_letter c = begins_between standard standard_is_alphabet 2 [] standard_ascends 0 3843 all

pub returns-clause-between_no_letter_less : goal.returns-clause-between_no_letter_less
returns-clause-between_no_letter_less c = λ h. let e = ((h (codes "00") (codes "Lz") (codes "Ly") 1363 (lit≤ tt) no_number greatest last_but_one).0 refl).1 in cc

pub returns-clause-between : goal.returns-clause-between
returns-clause-between c = begins_between standard standard_is_alphabet 2 (codes "L") standard_ascends 1302 1363 texts

pub returns-clause-between_from_less : goal.returns-clause-between_from_less
returns-clause-between_from_less c = λ h. no_K ((h (codes "Kz") (codes "Kz") (codes "Lz") 1301 (lit≤ tt) below below greatest).1 (refl, refl))

pub returns-clause-between_from_more : goal.returns-clause-between_from_more
returns-clause-between_from_more c = λ h. let e = ((h (codes "L1") (codes "L0") (codes "Lz") 1302 (lit≤ tt) next least greatest).0 refl).0 in cc

pub returns-clause-between_to_less : goal.returns-clause-between_to_less
returns-clause-between_to_less c = λ h. let e = ((h (codes "L0") (codes "Lz") (codes "Ly") 1363 (lit≤ tt) least greatest last_but_one).0 refl).1 in cc

pub returns-clause-between_to_more : goal.returns-clause-between_to_more
returns-clause-between_to_more c = λ h. no_M ((h (codes "L0") (codes "M0") (codes "M0") 1364 (lit≤ tt) least above above).1 (refl, refl))

pub returns-clause-none : goal.returns-clause-none
unfolding base62_on_literals
returns-clause-none c = begins_none standard standard_is_alphabet 22 (codes "7o") refl

pub returns-clause-overlong : goal.returns-clause-overlong
unfolding base62_on_literals
returns-clause-overlong c = begins_none standard standard_is_alphabet 2 (codes "000") refl

pub returns-clause-some : goal.returns-clause-some
returns-clause-some c = λ h. h 1302 (codes "L0") (lit≤ tt) least refl

pub returns-clause-greatest : goal.returns-clause-greatest
unfolding base62_on_literals
returns-clause-greatest c = λ h.
    let text = codes "7n42DGM5Tflk9n8mt7Fhc7" in
    h (2 ^ 128 - 1) text (lit≤ tt) (fixed_by standard 22 text (2 ^ 128 - 1) refl (omega arith) refl refl) refl
