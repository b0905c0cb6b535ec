use Rattle.std.proofs.Common.{◌≡◌, length, take}
use Rattle.taco_graph.specs.Pairs.{pairs_of}
use Rattle.taco_graph.proofs.counting.pair_count.Given as goal

abbrev pub invariant-loop-edge : goal.invariant-loop-edge
invariant-loop-edge l = l.count ≡ length (pairs_of (take l.edge-index l.edges))
