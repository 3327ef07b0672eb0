use Rattle.std.proofs.Common.{◌+◌}
use Rattle.std.proofs.lemmas.List.{take_rest}
use Rattle.base62_cli.proofs.LineLemmas.{cut_at_end}
use Rattle.base62_cli.proofs.tool.split_line.Goals as goal

pub returns : goal.returns
returns c =
    let found = c.in_ok-end.ensures in
    rw (take_rest c.args.bytes.now (c.in_ok-end.end + 1)) (cut_at_end c.args.bytes.now c.in_ok-end.end found.0 found.1 found.2)
