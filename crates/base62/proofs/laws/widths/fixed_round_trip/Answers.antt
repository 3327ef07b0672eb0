use Rattle.std.proofs.Common.{◌<◌, length, Result, Ok, Err, IsOk, OnOk, arith}
use Rattle.base62.specs.declared.fault.EncodeError.{EncodeError}
use Rattle.base62.specs.Fixed.{IsFixed}
use Rattle.base62.proofs.WidthLemmas.{has_fixed, one_fixed}
use Rattle.base62.proofs.laws.widths.fixed_round_trip.Goals as goal

-- what is true on `Ok` is true of a result that is `Ok`
on_ok : (P : Type 0) (result : Result (Unit {0}) EncodeError) → OnOk result P → IsOk result → P
on_ok P (Ok value) holds is = holds
on_ok P (Err fault) holds is = absurd (cc)

pub returns-clause-written : goal.returns-clause-written
returns-clause-written c = λ B ok n old new text decoded reads same written fills.
    let is : IsFixed B (length old) text n = reads.of_width n same in
    let some : 0 < length old = omega (arith, is.size, is.denotes.nonempty) in
    let fine = fills.fits.1 (some, (has_fixed B ok (length old) n some).0 (text, is)) in
    (fine, one_fixed B ok (length old) n new text (on_ok (IsFixed B (length old) new n) written fills.text fine) is)

pub returns-clause-key_written : goal.returns-clause-key_written
returns-clause-key_written c = λ B ok n key text decoded reads same is. one_fixed B ok 22 n key text is (reads.of_width n same)
