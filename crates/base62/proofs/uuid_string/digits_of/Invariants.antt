use Rattle.std.proofs.Common.{◌≡◌, ◌*◌, length, take}
use Rattle.base62.specs.UuidString.{digits}
use Rattle.base62.proofs.uuid_string.digits_of.Given as goal

abbrev pub invariant-loop-index : goal.invariant-loop-index
invariant-loop-index l = record { size : length l.text ≡ 32; written : take (2 * l.index) l.text ≡ digits (take l.index l.uuid) }
