use Rattle.std.proofs.Common.{◌≡◌, ℕ, ◌+◌, ◌*◌, ◌^◌, ◌≤◌, length, take}
use Rattle.base62.specs.Parts.{HasRead}
use Rattle.base62.proofs.codec.decoder.read_up_to_5_more.Given as goal

abbrev pub invariant-loop-i : goal.invariant-loop-i
invariant-loop-i l =
    (l.i ≤ length l.part) × ((m : ℕ) × HasRead l.tables.letters (take l.i l.part) l.fn.work l.work m × (l.total ≡ l.number * 62 ^ l.i + m))
