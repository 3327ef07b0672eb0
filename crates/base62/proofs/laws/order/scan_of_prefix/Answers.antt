use Rattle.std.proofs.Common.{◌≡◌, ℕ, List, Ok, Some, length, refl, arith}
use Rattle.base62.specs.Alphabet.{IsAlphabet, AreLetters}
use Rattle.base62.specs.Value.{value}
use Rattle.base62.specs.Fixed.{IsFixed}
use Rattle.base62.specs.Range.{BeginsTextsOf, range_of}
use Rattle.base62.proofs.PrefixLemmas.{begins_between}
use Rattle.base62.proofs.OrderLemmas.{not_after_iff}
use Rattle.base62.proofs.RangeLemmas.{range_ends}
use Rattle.base62.proofs.laws.order.scan_of_prefix.Goals as goal

-- letters as long as a text of w letters are one for their value
own : (B text : List ℕ) (w other : ℕ) (one : List ℕ) → IsFixed B w one other → length text ≡ w
    → AreLetters B text → IsFixed B w text (value B text)
own B text w other one is size letters = record {
  size = size;
  denotes = record { nonempty = omega (arith, is.size, is.denotes.nonempty, size); letters = letters; value_is = refl };
}

begun : (B prefix : List ℕ) (w : ℕ) (ends : ℕ × ℕ) → IsAlphabet B
    → range_of B w prefix ≡ Ok (Some ends) → BeginsTextsOf B w prefix ends.0 ends.1
begun B prefix w ends ok range = range_ends B ok w prefix _ refl ends.0 ends.1 range

pub returns-clause-from : goal.returns-clause-from
returns-clause-from c = λ up range lo text size letters small begins.
    let B = c.args.alphabet.now in
    let ok = c.letters_are_distinct.ensures in
    let is = own B text c.args.width _ c.args.low.now lo size letters in
    (not_after_iff B ok up c.args.width c.args.low.now text _ _ lo is).1 (((begun B c.args.prefix.now c.args.width c.args.ends ok range).texts _ text small is).0 begins).0

pub returns-clause-to : goal.returns-clause-to
returns-clause-to c = λ up range hi text size letters small begins.
    let B = c.args.alphabet.now in
    let ok = c.letters_are_distinct.ensures in
    let is = own B text c.args.width _ c.args.high.now hi size letters in
    (not_after_iff B ok up c.args.width text c.args.high.now _ _ is hi).1 (((begun B c.args.prefix.now c.args.width c.args.ends ok range).texts _ text small is).0 begins).1

pub returns-clause-taken : goal.returns-clause-taken
returns-clause-taken c = λ up range lo hi text size letters small lower upper.
    let B = c.args.alphabet.now in
    let ok = c.letters_are_distinct.ensures in
    let is = own B text c.args.width _ c.args.low.now lo size letters in
    (begins_between B ok c.args.width c.args.prefix.now up _ _ (begun B c.args.prefix.now c.args.width c.args.ends ok range) c.args.low.now text c.args.high.now _ small lo is hi).1 (lower, upper)
