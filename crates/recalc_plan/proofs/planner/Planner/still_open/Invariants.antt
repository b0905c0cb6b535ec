use Rattle.std.proofs.Common.{take}
use Rattle.recalc_plan.proofs.OpeningLemmas.{AreStillOpen}
use Rattle.recalc_plan.proofs.planner.Planner.still_open.Given as goal

abbrev pub invariant-loop-cell : goal.invariant-loop-cell
invariant-loop-cell l = AreStillOpen l.self.«open» (take l.cell-index l.cells) l.left.items
