use Rattle.std.proofs.Common.{take}
use Rattle.graph_walk.specs.Graphs.{IsDirectDependent}
use Rattle.plain_graph.proofs.PairLemmas.{AddsExactly}
use Rattle.plain_graph.proofs.plain.PlainGraphGraph.direct_dependents.Given as goal

abbrev pub invariant-loop-pair : goal.invariant-loop-pair
invariant-loop-pair l = AddsExactly l.fn.out.items l.out.items (IsDirectDependent (take l.pair-index l.pair-items) l.q)
