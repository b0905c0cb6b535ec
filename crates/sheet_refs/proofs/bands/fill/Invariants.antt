use Rattle.std.proofs.Common.{◌+◌, ◌-◌, ◌≤◌}
use Rattle.std.specs.Ordering.{nat_cmp}
use Rattle.std.specs.BTreeMap.{get}
use Rattle.sheet_refs.specs.Bands.{AreFilled}
use Rattle.sheet_refs.proofs.bands.fill.Given as goal

abbrev pub invariant-loop-next : goal.invariant-loop-next
invariant-loop-next l =
    (l.left ≤ l.col)
    × (l.col ≤ l.right + 1)
    × AreFilled (get nat_cmp l.initial.bands) (get nat_cmp l.bands) l.left l.col l.first l.last

abbrev pub decreases-loop-next : goal.decreases-loop-next
decreases-loop-next l = l.right + 1 - l.col
