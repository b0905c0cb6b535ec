use Rattle.std.proofs.Common.{◌+◌, ◌-◌, ◌≤◌}
use Rattle.std.specs.Ordering.{nat_cmp}
use Rattle.std.specs.BTreeMap.{get}
use Rattle.sheet_refs.specs.Runs.{Holds, AreGaps}
use Rattle.sheet_refs.proofs.column.gaps.Given as goal

abbrev pub invariant-loop-row : goal.invariant-loop-row
invariant-loop-row l = (l.fn.first ≤ l.row) × (l.row ≤ l.last + 1) × AreGaps (Holds (get nat_cmp l.runs)) l.fn.first l.row l.gaps.items

abbrev pub decreases-loop-row : goal.decreases-loop-row
decreases-loop-row l = l.last + 1 - l.row
