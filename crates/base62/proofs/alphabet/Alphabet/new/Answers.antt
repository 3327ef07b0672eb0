use Rattle.std.proofs.Common.{◌≡◌, refl, arith, inl, rules}
use Rattle.std.proofs.lemmas.List.{get_or-replicate}
use Rattle.base62.specs.Alphabet.{IsAlphabet}
use Rattle.base62.specs.Tables.{digits_of_bytes}
use Rattle.base62.proofs.TableFillLemmas.{alphabet_of_all}
use Rattle.base62.proofs.alphabet.Alphabet.new.Goals as goal

pub loop-index-init : goal.loop-index-init
loop-index-init c = (
  record {
    size = refl;
    digits = λ k below. absurd (omega arith);
    bytes = λ x fits. inl (get_or-replicate 256 x 255 0 fits);
  },
  omega arith,
)

done : (c : goal.After-loop-index) → IsAlphabet c.args.characters × (c.loop-index.digits ≡ digits_of_bytes c.args.characters)
done c = alphabet_of_all c.args.characters c.loop-index.digits c.loop-index.index (omega arith) (λ k. search rules) c.loop-index-test.false c.loop-index.invariant.1 c.loop-index.invariant.0

pub invariant_of-result : goal.invariant_of-result
invariant_of-result c = record { alphabet = (done c).0; digits = (done c).1 }

pub returns-clause-accepted : goal.returns-clause-accepted
returns-clause-accepted c = (λ _. (done c).0, λ _. refl)
