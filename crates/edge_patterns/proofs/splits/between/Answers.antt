use Rattle.std.proofs.Common.{◌≡◌, ◌≤◌, ◌<◌, ◌+◌, ◌-◌, arith}
use Rattle.edge_patterns.specs.Edges.{run_length}
use Rattle.edge_patterns.proofs.PartLemmas.{part_is_part}
use Rattle.edge_patterns.proofs.splits.between.Goals as goal

pub returns : goal.returns
returns c =
    let within : c.args.end - 1 < run_length c.args.e.now = omega (arith, c.requires, c.if-from-end.false) in
    let order : c.args.from ≤ c.args.end - 1 = omega (arith, c.if-from-end.false) in
    let end : c.args.end - 1 + 1 ≡ c.args.end = omega (arith, c.if-from-end.false) in
    rw c.part.ensures.part (rw end at (part_is_part c.args.e.now c.part.ensures.edge c.args.from (c.args.end - 1) order
    within (rw c.part.ensures.part at c.part.ensures.is_edge)))
