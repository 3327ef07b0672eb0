use Rattle.std.proofs.Common.{ℕ, ◌+◌, ◌*◌, ◌/◌, ◌^◌, ◌<◌, ◌≤◌, refl, arith}
use Rattle.std.proofs.lemmas.Nat.{pow-add}
use Rattle.base62.proofs.CountLemmas.{greatest_is, estimate_corrected}
use Rattle.base62.proofs.count.wide_count.Goals as goal

-- the highest bit of the upper half is the number's own
low : (n b : ℕ) → 2 ^ b ≤ n / 2 ^ 64 → 2 ^ (b + 64) ≤ n
low n b less = omega (arith, pow-add 2 b 64)

high : (n b : ℕ) → n / 2 ^ 64 < 2 * 2 ^ b → n < 2 * 2 ^ (b + 64)
high n b more = omega (arith, pow-add 2 b 64)

pub returns : goal.returns
returns c =
    let bit = c.ilog2-highest.ensures in
    let n = c.args.n in
    let b = c.ilog2-highest.result in
    let corrected = estimate_corrected n (b + 64) (2 ^ 128) _ (omega (arith, bit.bound)) (low n b bit.power_le) (high n b bit.next_power_gt) c.ranges.n.fits in
    corrected (greatest_is _ (omega (arith, bit.bound))) _ refl
