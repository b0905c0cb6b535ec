use Rattle.std.proofs.Common.{◌≤◌, ◌+◌, ◌-◌}
use Rattle.sheet_refs.specs.Rectangles.{Tile}
use Rattle.sheet_refs.proofs.PartLemmas.{IsNewBefore}
use Rattle.sheet_refs.proofs.rect_set.RectSet.new_part.Given as goal

abbrev pub invariant-loop-left : goal.invariant-loop-left
invariant-loop-left l = (l.fn.range.head.col ≤ l.left) × (l.left ≤ l.end + 1) × Tile l.parts.items (IsNewBefore l.self l.fn.range l.left)

abbrev pub decreases-loop-left : goal.decreases-loop-left
decreases-loop-left l = l.end + 1 - l.left
