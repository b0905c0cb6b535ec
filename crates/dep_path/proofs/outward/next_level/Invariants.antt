use Rattle.std.proofs.Common.{[], take}
use Rattle.graph_walk.specs.Gathers.{Gathers}
use Rattle.dep_path.specs.Levels.{IsDirect}
use Rattle.dep_path.proofs.outward.next_level.Given as goal

abbrev pub invariant-loop-range : goal.invariant-loop-range
invariant-loop-range g l = Gathers l.initial.seen l.seen [] l.next.items (IsDirect (g.G.Graph.pairs l.graph) (take l.range-index l.level))
