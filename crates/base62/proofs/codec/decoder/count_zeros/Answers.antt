use Rattle.std.proofs.Common.{◌==◌, sym, ◌∙◌, eq-eqb, arith}
use Rattle.std.proofs.lemmas.List.Sums.{prefix_len_is}
use Rattle.base62.specs.Alphabet.{zero_letter}
use Rattle.base62.proofs.codec.decoder.count_zeros.Goals as goal

pub returns-then-not-is_zero-2-clause-zeros : goal.returns-then-not-is_zero-2-clause-zeros
returns-then-not-is_zero-2-clause-zeros c =
    sym (prefix_len_is (λ b. b == zero_letter c.args.tables.now.letters) c.args.input.now c.loop-i.i 0 (omega arith)
    (λ k h. eq-eqb _ _ (c.loop-i.invariant k h)) (λ _. sym c.is_zero-in-loop-i.ensures ∙ c.if-not-is_zero-2.true))

pub returns-clause-zeros : goal.returns-clause-zeros
returns-clause-zeros c =
    sym (prefix_len_is (λ b. b == zero_letter c.args.tables.now.letters) c.args.input.now _ 0 (omega arith)
    (λ k h. eq-eqb _ _ (c.loop-i.invariant k (omega arith))) (λ h. absurd (omega arith)))
