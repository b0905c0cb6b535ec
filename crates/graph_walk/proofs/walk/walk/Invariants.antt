use Rattle.std.proofs.Common.{◌+◌, vec_len}
use Rattle.graph_walk.specs.Gathers.{absent}
use Rattle.graph_walk.specs.Walks.{step_in, IsWalking}
use Rattle.graph_walk.proofs.walk.walk.Given as goal

abbrev pub invariant-loop-range : goal.invariant-loop-range
invariant-loop-range g l = IsWalking (step_in l.direction (g.G.Graph.pairs l.graph)) l.starts l.set l.waiting.items

abbrev pub decreases-loop-range : goal.decreases-loop-range
decreases-loop-range g l = absent l.set + vec_len l.waiting
