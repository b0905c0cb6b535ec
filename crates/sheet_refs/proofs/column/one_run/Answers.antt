use Rattle.std.proofs.Common.{◌≡◌, length, arith}
use Rattle.sheet_refs.proofs.BandLoops.{alone}
use Rattle.sheet_refs.proofs.column.one_run.Goals as goal

pub returns : goal.returns
returns c =
    let one : length c.args.runs.now.entries ≡ 1 = omega (arith, c.len.ensures.len, c.if-len-ne1.false) in
    alone c.args.runs.now.entries _ one c.in_ok-run.ensures.first
