use Rattle.std.proofs.Common.{map, reverse}
use Rattle.graph_walk.specs.Gathers.{absent}
use Rattle.dep_path.proofs.LevelLemmas.{IsGoingOut}
use Rattle.dep_path.proofs.outward.levels_between.Given as goal

abbrev pub invariant-loop-alloc : goal.invariant-loop-alloc
invariant-loop-alloc g l = IsGoingOut (g.G.Graph.pairs l.graph) l.fn.from l.fn.to l.seen (reverse (map (λ level. level.items) l.levels.items))

abbrev pub decreases-loop-alloc : goal.decreases-loop-alloc
decreases-loop-alloc g l = absent l.seen
