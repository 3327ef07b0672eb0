use Rattle.std.proofs.Common.{◌≡◌, ◌<◌, ◌*◌, ℕ, length, map, take, get_or}
use Rattle.std.specs.Char.{to_ascii_lowercase}
use Rattle.base62.specs.UuidString.{digits}
use Rattle.base62.proofs.uuid_string.read_pairs.Given as goal

abbrev pub invariant-loop-index : goal.invariant-loop-index
invariant-loop-index l = record {
  size : length l.uuid ≡ 16;
  bytes : (i : ℕ) → get_or l.uuid i 0 < 256;
  read : map to_ascii_lowercase (take (2 * l.index) l.text) ≡ digits (take l.index l.uuid);
}
