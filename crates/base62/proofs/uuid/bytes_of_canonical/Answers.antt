use Rattle.std.proofs.Common.{rules, ◌≡◌, ◌<◌, ◌^◌, Ok}
use Rattle.base62.proofs.UuidLemmas.{canonical_decoded}
use Rattle.base62.proofs.uuid.bytes_of_canonical.Goals as goal

pub returns-in-Ok : goal.returns-in-Ok
returns-in-Ok c =
    let e : c.args.decoded ≡ Ok c.in-Ok.value = search rules in
    let small : c.in-Ok.value < 2 ^ 128 = search rules in
    λ B text is. rw c.to_be_bytes.ensures (canonical_decoded B text c.in-Ok.value small (rw e at is))
