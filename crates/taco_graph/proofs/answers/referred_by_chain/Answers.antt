use Rattle.edge_patterns.proofs.ChainLemmas.{refuted}
use Rattle.taco_graph.proofs.ChainLemmas.{shared_of, first_in, last_in, is_named, moved_covers}
use Rattle.taco_graph.proofs.answers.referred_by_chain.Goals as goal

pub moved-requires-clause-rows : goal.moved-requires-clause-rows
moved-requires-clause-rows c =
    rw (c.head-from.ensures.head, c.dep-2.ensures.dep, c.head.ensures.head) (first_in c.args.edge.now.dep c.dep.result
    c.args.q c.in-Some.asked c.dep.ensures.dep c.in-Some.ensures.shared c.head.ensures.ordered).row_from

pub moved-requires-clause-cols : goal.moved-requires-clause-cols
moved-requires-clause-cols c =
    rw (c.head-from.ensures.head, c.dep-2.ensures.dep, c.head.ensures.head) (first_in c.args.edge.now.dep c.dep.result
    c.args.q c.in-Some.asked c.dep.ensures.dep c.in-Some.ensures.shared c.head.ensures.ordered).col_from

pub returns-in_default-moved : goal.returns-in_default-moved
returns-in_default-moved c =
    λ cell referred. refuted c.in_default-moved.ensures.named (rw (
      c.head-from.ensures.head,
      c.dep-2.ensures.dep,
      c.head.ensures.head,
      c.head-to.ensures.head,
      c.prec.ensures.prec,
    ) (is_named c.args.edge.now c.dep.ensures.edge
    c.requires c.in-Some.asked.head (first_in c.args.edge.now.dep c.dep.result c.args.q c.in-Some.asked
    c.dep.ensures.dep c.in-Some.ensures.shared c.head.ensures.ordered)))

pub moved-requires-2-clause-rows : goal.moved-requires-2-clause-rows
moved-requires-2-clause-rows c =
    rw (c.head-from.ensures.head, c.dep-2.ensures.dep, c.tail.ensures.tail) (last_in c.args.edge.now.dep c.dep.result
    c.args.q c.in-Some.asked c.dep.ensures.dep c.in-Some.ensures.shared c.head.ensures.ordered).row_from

pub moved-requires-2-clause-cols : goal.moved-requires-2-clause-cols
moved-requires-2-clause-cols c =
    rw (c.head-from.ensures.head, c.dep-2.ensures.dep, c.tail.ensures.tail) (last_in c.args.edge.now.dep c.dep.result
    c.args.q c.in-Some.asked c.dep.ensures.dep c.in-Some.ensures.shared c.head.ensures.ordered).col_from

pub returns-in_default-moved-2 : goal.returns-in_default-moved-2
returns-in_default-moved-2 c =
    λ cell referred. refuted c.in_default-moved-2.ensures.named (rw (
      c.head-from.ensures.head,
      c.dep-2.ensures.dep,
      c.tail.ensures.tail,
      c.head-to.ensures.head,
      c.prec.ensures.prec,
    ) (is_named c.args.edge.now c.dep.ensures.edge
    c.requires c.in-Some.asked.tail (last_in c.args.edge.now.dep c.dep.result c.args.q c.in-Some.asked c.dep.ensures.dep
    c.in-Some.ensures.shared c.head.ensures.ordered)))

pub returns : goal.returns
returns c = λ cell.
    let first = c.in-Some-moved.ensures.moved in
    let last = c.in-Some-moved-2.ensures.moved in
    let head_row = rw (c.head-from.ensures.head, c.dep-2.ensures.dep, c.head.ensures.head, c.head-to.ensures.head, c.prec.ensures.prec) at first.rows in
    let head_col = rw (c.head-from.ensures.head, c.dep-2.ensures.dep, c.head.ensures.head, c.head-to.ensures.head, c.prec.ensures.prec) at first.cols in
    let tail_row = rw (c.head-from.ensures.head, c.dep-2.ensures.dep, c.tail.ensures.tail, c.head-to.ensures.head, c.prec.ensures.prec) at last.rows in
    let tail_col = rw (c.head-from.ensures.head, c.dep-2.ensures.dep, c.tail.ensures.tail, c.head-to.ensures.head, c.prec.ensures.prec) at last.cols in
    rw c.of.ensures.corners (moved_covers c.args.edge.now c.dep.ensures.edge c.requires c.args.q c.in-Some.asked
    c.in-Some-moved.head c.in-Some-moved-2.tail (shared_of c.args.edge.now.dep c.dep.result c.args.q c.in-Some.asked
    c.dep.ensures.dep c.in-Some.ensures.shared) c.head.ensures.ordered head_row head_col tail_row tail_col cell)
