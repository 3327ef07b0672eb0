use Rattle.std.proofs.Common.{◌≡◌, ◌<◌, ℕ, get_or, length, rules, arith}
use Rattle.base62.proofs.UuidStringLemmas.{written_back}
use Rattle.base62.proofs.uuid_string.uuid_to_string.Goals as goal

pub returns-clause-back : goal.returns-clause-back
returns-clause-back c =
    let uuid = c.args.uuid in
    let size : length uuid ≡ 16 = omega arith in
    let fits : (i : ℕ) → get_or uuid i 0 < 256 = λ i. search rules in
    rw (c.with_hyphens.ensures, c.digits_of.ensures) (written_back uuid (record { size = size; bytes = fits }))
