-- All cells of a rectangle.
use Rattle.std.specs.Prelude.{ℕ, List, IsTrue}
use Rattle.sheet_refs.specs.Cells.{Position}
use Rattle.sheet_refs.specs.Sizes.{is_inside}
use Rattle.sheet_refs.specs.declared.sizes.Sizes.{Sizes}
use Rattle.mark_core.specs.declared.actors.View.{View}
use Rattle.live_sheet.specs.Stale.{KnowsCell}

-- the view knows each cell of the rectangle as clean
abbrev pub KnowsAll : {E : Type 0} → (List E → E → ℕ → Type 0) → Sizes → View (List E) → Type 0
KnowsAll touches sizes view = (cell : Position) → IsTrue (is_inside sizes cell) → KnowsCell touches sizes view cell
