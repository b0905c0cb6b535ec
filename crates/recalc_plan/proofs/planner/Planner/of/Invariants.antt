use Rattle.std.proofs.Common.{take}
use Rattle.recalc_plan.specs.Opens.{AreOpenedFor}
use Rattle.recalc_plan.proofs.planner.Planner.of.Given as goal

abbrev pub invariant-loop-cell : goal.invariant-loop-cell
invariant-loop-cell l = AreOpenedFor (take l.cell-index l.stale) l.«open»
