use Rattle.std.proofs.Common.{take}
use Rattle.std.specs.BTreeMap.{get}
use Rattle.std.specs.Ordering.{nat_cmp}
use Rattle.sheet_undo.specs.Found.{Finds}
use Rattle.sheet_undo.specs.Undoing.{changed_cells}
use Rattle.sheet_undo.proofs.entry_cells.EntryCells.of.Given as goal

abbrev pub invariant-loop-place : goal.invariant-loop-place
invariant-loop-place l = Finds l.sizes (changed_cells (take l.place l.changes)) (get nat_cmp l.places)
