use Rattle.std.proofs.Common.{◌+◌, arith}
use Rattle.taco_graph.proofs.EdgeListLemmas.{pairs_more, pairs_within}
use Rattle.taco_graph.proofs.counting.pair_count.Goals as goal

pub overflow_add-count : goal.overflow_add-count
overflow_add-count c =
    let edges = c.args.edges.now in
    let k = c.loop-edge.edge-index in
    omega (
      arith,
      pairs_more edges k c.loop-edge.count c.cells-count.result c.edge-item.result c.dep.result c.loop-edge-test.true
          c.edge-item.is c.dep.ensures.edge c.dep.ensures.dep c.cells-count.ensures.product c.loop-edge.invariant,
      pairs_within edges (k + 1),
      c.requires,
    )

pub loop-edge-preserved : goal.loop-edge-preserved
loop-edge-preserved c =
    pairs_more c.args.edges.now c.loop-edge.edge-index c.loop-edge.count c.cells-count.result c.edge-item.result
    c.dep.result c.loop-edge-test.true c.edge-item.is c.dep.ensures.edge c.dep.ensures.dep
    c.cells-count.ensures.product c.loop-edge.invariant
