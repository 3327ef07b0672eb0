use Rattle.std.proofs.Common.{◌≡◌, ◌<◌, ℕ, get_or, length, rules, arith}
use Rattle.std.proofs.lemmas.Str.{IsUtf8-from_ascii}
use Rattle.base62.proofs.UuidStringLemmas.{hyphenated_ascii}
use Rattle.base62.proofs.uuid_string.uuid_to_str.Goals as goal

pub from_utf8_unchecked-requires : goal.from_utf8_unchecked-requires
from_utf8_unchecked-requires c =
    let uuid = c.args.uuid in
    let size : length uuid ≡ 16 = omega arith in
    let fits : (i : ℕ) → get_or uuid i 0 < 256 = λ i. search rules in
    IsUtf8-from_ascii _ (rw c.uuid_to_string.ensures.written (hyphenated_ascii uuid (record { size = size; bytes = fits })))
