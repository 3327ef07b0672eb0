use Rattle.std.proofs.Common.{eqb, take, arith, w8}
use Rattle.std.proofs.lemmas.Simd.{bitmask_splat, length-chunk}
use Rattle.base62_cli.proofs.LineLemmas.{first_line_end}
use Rattle.base62_cli.proofs.line_end.line_end.Goals as goal

pub returns-then-ends-ne0 : goal.returns-then-ends-ne0
returns-then-ends-ne0 c =
    let bytes = c.args.bytes.now in
    let mask = bitmask_splat w8 eqb (take 64 bytes) 64 10 (length-chunk 0 64 bytes (omega arith)) (omega arith) in
    first_line_end bytes _ (omega arith) (omega arith) mask (omega arith)
