use Rattle.edit_log.specs.Rows.{AreCellsAt}
use Rattle.std.proofs.Common.{take}
use Rattle.edit_log.proofs.rows.cells_at.Given as goal

abbrev pub invariant-loop-place : goal.invariant-loop-place
invariant-loop-place l = AreCellsAt l.fn.sizes (take l.place-index l.places) l.cells.items
