use Rattle.std.proofs.Common.{map}
use Rattle.std.specs.BTreeMap.{btree_map_len as count_of}
use Rattle.recalc_plan.specs.Planning.{IsPlanning}
use Rattle.recalc_plan.proofs.scheduling.plan.Given as goal

abbrev pub invariant-loop-levels : goal.invariant-loop-levels
invariant-loop-levels g l = IsPlanning (g.G.Graph.pairs l.graph) l.stale (map (λ level. level.items) l.levels.items) l.planner.«open» l.ready.items

abbrev pub decreases-loop-levels : goal.decreases-loop-levels
decreases-loop-levels g l = count_of l.planner.«open»
