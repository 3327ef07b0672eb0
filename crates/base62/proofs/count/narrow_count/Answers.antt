use Rattle.std.proofs.Common.{◌^◌, ◌<◌, inl, refl, arith}
use Rattle.base62.proofs.FixedLemmas.{digit_count_is}
use Rattle.base62.proofs.CountLemmas.{greatest_narrow_is, estimate_corrected}
use Rattle.base62.proofs.count.narrow_count.Goals as goal

pub returns-then-n-eq0 : goal.returns-then-n-eq0
returns-then-n-eq0 c = digit_count_is c.args.n 1 (omega arith) (omega (arith, c.if-n-eq0.true)) (inl refl)

pub returns : goal.returns
returns c =
    let bit = c.ilog2-highest.ensures in
    let few : c.ilog2-highest.result < 128 = omega (arith, bit.bound) in
    let corrected = estimate_corrected c.args.n _ (2 ^ 64) _ few bit.power_le bit.next_power_gt c.ranges.n.fits in
    corrected (greatest_narrow_is _ (omega (arith, bit.bound))) _ refl
