-- Which cells may be on a cycle, and which edits put none onto one.
use Rattle.std.specs.Prelude.{◌≡◌, ℕ, List, IsTrue, Contains, All}
use Rattle.sheet_refs.specs.Cells.{Position, Corners, IsIn}
use Rattle.sheet_refs.specs.Rectangles.{IsAmong}
use Rattle.sheet_refs.specs.Sizes.{is_inside}
use Rattle.value_core.specs.Values.{code_of}
use Rattle.graph_walk.specs.Graphs.{Pair, IsOnCycle}
use Rattle.sheet_model.specs.Changes.{ChangeValue}
use Rattle.sheet_model.specs.Edits.{EditValue}
use Rattle.sheet_model.specs.Ranges.{ranges_in}
use Rattle.sheet_model.specs.Sheets.{SheetValue}
use Rattle.sheet_model.specs.Values.{value_of, circular_value}

-- a set has each cell that is on a cycle of the pairs; it may have others
abbrev pub HoldsCycles : List Pair → List Corners → Type 0
HoldsCycles pairs set = (cell : Position) → IsOnCycle pairs cell → IsAmong set cell

-- a set has each cell of the sheet whose value is #CIRC!
abbrev pub HoldsCircular : SheetValue → List Corners → Type 0
HoldsCircular sheet set =
    (cell : Position) → IsTrue (is_inside sheet.sizes cell) → value_of sheet cell ≡ circular_value → IsAmong set cell

-- a set keeps its cells, and gets a cell where its word is the code of #CIRC!
pub record AddsWhereCircular (cell : Position) (word : ℕ) (old new : List Corners) : Type 0 where
  pub kept : (other : Position) → IsAmong old other → IsAmong new other
  pub added : word ≡ code_of circular_value → IsAmong new cell

-- no cell of a set is in the range; nor in any of the ranges of some formulas
abbrev pub Misses : List Corners → Corners → Type 0
Misses set range = (cell : Position) → IsIn cell range → ¬ IsAmong set cell

abbrev pub MissesAll : List Corners → List (List Corners) → Type 0
MissesAll set refs = All (λ ranges. All (Misses set) ranges) refs

-- no formula of an edit refers to a cell of a list
abbrev pub RefersToNone : EditValue → List Position → Type 0
RefersToNone edit cells =
    (change : ChangeValue) (range : Corners) (cell : Position)
    → Contains edit change → Contains (ranges_in change.content) range → Contains cells cell → ¬ IsIn cell range
