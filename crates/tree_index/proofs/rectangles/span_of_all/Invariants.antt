use Rattle.std.proofs.Common.{take}
use Rattle.sheet_refs.specs.Cells.{Corners}
use Rattle.tree_index.specs.Rectangles.{Covers, CoverAll}
use Rattle.tree_index.proofs.rectangles.span_of_all.Given as goal

abbrev pub invariant-loop-item : goal.invariant-loop-item
invariant-loop-item l = CoverAll l.whole (take l.item-index l.items) × ((outer : Corners) → CoverAll outer l.items → Covers outer l.whole)
