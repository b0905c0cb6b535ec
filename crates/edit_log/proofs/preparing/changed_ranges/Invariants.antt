use Rattle.std.proofs.Common.{◌≡◌, take}
use Rattle.edit_log.specs.Touches.{cell_ranges}
use Rattle.edit_log.proofs.preparing.changed_ranges.Given as goal

abbrev pub invariant-loop-change : goal.invariant-loop-change
invariant-loop-change l = l.ranges.items ≡ cell_ranges (take l.change-index l.changes)
