use Rattle.std.proofs.Common.{◌≡◌, ◌+◌, ◌-◌, ◌∙◌, drop, set, take, refl, arith, length-set, length-drop}
use Rattle.std.proofs.lemmas.Fmt.{IsAscii-decimal}
use Rattle.std.proofs.lemmas.List.{take_all}
use Rattle.std.specs.Fmt.{decimal}
use Rattle.base62.proofs.AppendLemmas.{digit_more, last_digit, first_digit}
use Rattle.base62.proofs.fault.append_decimal.Goals as goal

pub loop-left-preserved : goal.loop-left-preserved
loop-left-preserved c =
    let l = c.loop-left in
    let fits = l.auto.left-fits.fits in
    let more = digit_more l.left c.loop-left-test.true fits in
    let next : l.start - 1 + 1 ≡ l.start = omega (arith, more) in (
      omega (arith, more),
      omega arith,
      length-set l.digits l.start _ ∙ l.invariant.2,
      rw next (last_digit l.left l.start l.digits c.loop-left-test.true fits (omega (arith, l.invariant.2)) ∙ l.invariant.3),
    )

-- the written part is the digits
written : (c : goal.After-append_bytes-arg-1)
    → take (20 - c.loop-left.start) (drop c.loop-left.start (set c.loop-left.digits c.loop-left.start (48 + c.loop-left.left))) ≡ decimal c.args.number
written c =
    let l = c.loop-left in
    let digits = set l.digits l.start (48 + l.left) in
    take_all (20 - l.start) (drop l.start digits) (omega (arith, length-drop l.start digits, c.loop-left-test.array_long))
    ∙ first_digit l.left l.start l.digits c.loop-left-test.false (omega (arith, l.invariant.2)) ∙ l.invariant.3

pub append_bytes-requires : goal.append_bytes-requires
append_bytes-requires c = record {
  fits = rw (written c) c.requires;
  ascii = rw (written c) (IsAscii-decimal c.args.number c.ranges.number.fits);
}

pub returns : goal.returns
returns c = rw (c.append_bytes.ensures, written c.before) refl
