use Rattle.std.proofs.Common.{◌≤◌}
use Rattle.sheet_refs.specs.Cells.{Position, IsIn}
use Rattle.recalc_plan.specs.Opens.{IsOpen}
use Rattle.recalc_plan.proofs.opens.last_in.Given as goal

abbrev pub invariant-loop-col : goal.invariant-loop-col
invariant-loop-col l = ((other : Position) → IsIn other l.range → other.col ≤ l.up_to → IsOpen l.opens other
    → other.col ≤ l.col) × (l.col ≤ l.up_to) × (l.col ≤ l.range.tail.col)

abbrev pub decreases-loop-col : goal.decreases-loop-col
decreases-loop-col l = l.col
