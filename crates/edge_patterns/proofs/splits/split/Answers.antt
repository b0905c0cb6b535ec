use Rattle.edge_patterns.proofs.PartLemmas.{keeps_where, index_in_run, before_is, after_is}
use Rattle.edge_patterns.proofs.SplitLemmas.{leave_out}
use Rattle.edge_patterns.proofs.splits.split.Goals as goal

pub returns-clause-before : goal.returns-clause-before
returns-clause-before c =
    let edge = c.args.e.now in
    let index = (index_in_run edge c.axis-axis.ensures.edge c.args.cell c.requires).0 in
    let kept = rw (c.along.ensures.along, c.along-2.ensures.along, c.axis-axis.ensures.axis, c.head.ensures.head, c.dep.ensures.dep) at c.between.ensures in
    keeps_where edge _ _ (before_is edge c.args.cell _ index) c.between.result kept

pub returns-clause-after : goal.returns-clause-after
returns-clause-after c =
    let edge = c.args.e.now in
    let index = (index_in_run edge c.axis-axis.ensures.edge c.args.cell c.requires).0 in
    let kept = rw (
      c.along.ensures.along,
      c.along-2.ensures.along,
      c.axis-axis.ensures.axis,
      c.head.ensures.head,
      c.dep.ensures.dep,
      c.len.ensures.len,
    ) at c.between-2.ensures in
    keeps_where edge _ _ (after_is edge c.args.cell _ index) c.between-2.result kept

pub returns-clause-parts : goal.returns-clause-parts
returns-clause-parts c =
    leave_out c.args.e.now c.axis-axis.ensures.edge c.args.cell c.requires c.between.result c.between-2.result
    (returns-clause-before c) (returns-clause-after c)
