use Rattle.std.proofs.Common.{◌+◌, ◌-◌, ◌≤◌}
use Rattle.sheet_refs.specs.Bands.{LackRows, rows_at}
use Rattle.sheet_refs.proofs.rect_set.last_alike.Given as goal

abbrev pub invariant-loop-end : goal.invariant-loop-end
invariant-loop-end l =
    (l.left ≤ l.end)
    × (l.end ≤ l.right)
    × LackRows (rows_at l.bands) l.left (l.end + 1) l.first (l.last + 1) l.gaps

abbrev pub decreases-loop-end : goal.decreases-loop-end
decreases-loop-end l = l.right - l.end
