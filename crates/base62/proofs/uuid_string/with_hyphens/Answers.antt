use Rattle.std.proofs.Common.{◌≡◌, length, arith}
use Rattle.base62.proofs.UuidStringLemmas.{copied_apart_is}
use Rattle.base62.proofs.uuid_string.with_hyphens.Goals as goal

pub returns : goal.returns
returns c =
    let size : length c.args.digits ≡ 32 = omega arith in
    rw (c.copy_at-5.ensures, c.copy_at-4.ensures, c.copy_at-3.ensures, c.copy_at-2.ensures, c.copy_at.ensures) (copied_apart_is c.args.digits size)
