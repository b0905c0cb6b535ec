use Rattle.std.proofs.Common.{take}
use Rattle.recalc_plan.specs.Opens.{AreFirstWaiters}
use Rattle.recalc_plan.proofs.scheduling.waiters_of.Given as goal

abbrev pub invariant-loop-cell : goal.invariant-loop-cell
invariant-loop-cell g l = AreFirstWaiters (g.G.Graph.pairs l.graph) (take l.cell-index l.cells) l.waiters.items
