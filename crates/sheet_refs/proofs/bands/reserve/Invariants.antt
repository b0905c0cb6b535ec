use Rattle.std.proofs.Common.{ℕ, ◌+◌, ◌-◌, ◌≤◌}
use Rattle.std.specs.Ordering.{nat_cmp}
use Rattle.std.specs.BTreeMap.{get}
use Rattle.sheet_refs.specs.Bands.{HaveRoom, StaysBand}
use Rattle.sheet_refs.proofs.bands.reserve.Given as goal

abbrev pub invariant-loop-next : goal.invariant-loop-next
invariant-loop-next l =
    (l.left ≤ l.col)
    × (l.col ≤ l.right + 1)
    × ((q : ℕ) → StaysBand (get nat_cmp l.initial.bands q) (get nat_cmp l.bands q))
    × HaveRoom (get nat_cmp l.bands) l.left l.col l.row

abbrev pub decreases-loop-next : goal.decreases-loop-next
decreases-loop-next l = l.right + 1 - l.col
