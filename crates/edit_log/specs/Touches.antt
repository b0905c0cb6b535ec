-- Which cells an entry touches: those that it changes, and all that depend on them.
use Rattle.std.specs.Prelude.{◌≡◌, ℕ, ◌+◌, ◌/◌, ◌%◌, ◌<◌, ◌↔◌, IsTrue, List, [], ◌∷◌, ◌++◌, map, Contains}
use Rattle.std.specs.List.Sorted.{IsStrictlyIncreasing}
use Rattle.sheet_refs.specs.Cells.{Position, Corners, IsIn, span_of}
use Rattle.sheet_refs.specs.Sizes.{is_inside, place_of, cell_count}
use Rattle.sheet_refs.specs.declared.sizes.Sizes.{Sizes}
use Rattle.value_core.specs.Values.{code_of}
use Rattle.graph_walk.specs.Graphs.{Pair}
use Rattle.graph_walk.specs.Paths.{IsReached}
use Rattle.graph_walk.specs.Starts.{ReachOfAll}
use Rattle.sheet_model.specs.Changes.{ChangeValue}
use Rattle.sheet_model.specs.Edits.{EditValue, AreInSheet}
use Rattle.sheet_model.specs.Logs.{after}
use Rattle.sheet_model.specs.Sheets.{SheetValue}
use Rattle.sheet_model.specs.Values.{value_of}
use Rattle.sheet_model.specs.declared.entry.Entry.{Entry}
use Rattle.edit_log.specs.Pairs.{IsPairOf}

-- the one cell is in a range to which the other's formula refers: the other depends directly on it
pub record DependsDirectly (sheet : SheetValue) (from to : Position) : Type 0 where
  pub pair : Pair
  pub of_sheet : IsPairOf sheet pair
  pub inside : IsIn from pair.range
  pub cell_is : pair.cell ≡ to

-- a cell that an edit changes
abbrev pub IsChangedBy : EditValue → Position → Type 0
IsChangedBy edit cell = (change : ChangeValue) × Contains edit change × (cell ≡ change.cell)

-- an entry touches its cells, and all cells that depend on one of them in any number of steps, by the formulas that
-- stand in the sheet after the log, before the entry
abbrev pub Touches : SheetValue → List Entry → Entry → Position → Type 0
Touches opening log entry cell = IsReached (DependsDirectly (after opening log)) (IsChangedBy entry.edit) cell

-- the entry of one change of an entry, alone
abbrev pub of_change : Entry → ChangeValue → Entry
of_change entry change = record { client = entry.client; edit = change ∷ [] }

-- an entry touches exactly what each of its changes would touch alone
abbrev pub TouchedByOneOfTheChanges : Type 0
TouchedByOneOfTheChanges =
    (opening : SheetValue) (log : List Entry) (entry : Entry) (cell : Position)
    → Touches opening log entry cell ↔ ((change : ChangeValue) × Contains entry.edit change × Touches opening log (of_change entry change) cell)

-- each of its changed cells is among them
abbrev pub ChangedCellsAreTouched : Type 0
ChangedCellsAreTouched =
    (opening : SheetValue) (log : List Entry) (entry : Entry) (change : ChangeValue)
    → Contains entry.edit change → Touches opening log entry change.cell

-- a cell that an entry doesn't touch keeps its value
abbrev pub UntouchedCellsKeepTheirValues : Type 0
UntouchedCellsKeepTheirValues =
    (opening : SheetValue) (log : List Entry) (entry : Entry) (cell : Position) → ¬ Touches opening log entry cell
    → value_of (after opening (log ++ entry ∷ [])) cell ≡ value_of (after opening log) cell

-- by the formulas before an entry the same cells depend on its cells as by those after it
abbrev pub TouchedBeforeAndAfter : Type 0
TouchedBeforeAndAfter =
    (opening : SheetValue) (log : List Entry) (entry : Entry) (cell : Position)
    → Touches opening log entry cell ↔ Touches opening (log ++ entry ∷ []) entry cell

-- an entry that changes cells of the sheet touches cells of the sheet alone
abbrev pub TouchedCellsAreInside : Type 0
TouchedCellsAreInside =
    (opening : SheetValue) (log : List Entry) (entry : Entry) (cell : Position)
    → AreInSheet opening entry.edit → Touches opening log entry cell → IsTrue (is_inside opening.sizes cell)

-- the ranges of the single cells that changes change
abbrev pub cell_range : ChangeValue → Corners
cell_range change = span_of change.cell change.cell

abbrev pub cell_ranges : EditValue → List Corners
cell_ranges edit = map cell_range edit

-- all cells that some ranges reach lie in the rectangle
abbrev pub IsReachInside : Sizes → List Pair → List Corners → Type 0
IsReachInside sizes pairs ranges = (cell : Position) → ReachOfAll pairs ranges cell → IsTrue (is_inside sizes cell)

-- a list has exactly the cells of a set, row by row, each once
pub record ListsRowByRow (sizes : Sizes) (cells : List Position) (set : Position → Type 0) : Type 0 where
  pub exact : (cell : Position) → Contains cells cell ↔ set cell
  pub order : IsStrictlyIncreasing (map (place_of sizes) cells)

-- a list has the cells that an entry touches
abbrev pub AreTouched : SheetValue → List Entry → Entry → List Position → Type 0
AreTouched opening log entry cells = ListsRowByRow opening.sizes cells (Touches opening log entry)

-- two lists of the cells that an entry touches are one
abbrev pub TouchedCellsHaveOneList : Type 0
TouchedCellsHaveOneList =
    (opening : SheetValue) (log : List Entry) (entry : Entry) (a b : List Position)
    → AreTouched opening log entry a → AreTouched opening log entry b → a ≡ b

-- the cell at a place of a rectangle, row by row, counted from 0
abbrev pub cell_at : Sizes → ℕ → Position
cell_at sizes place = record { row = place / sizes.cols + 1; col = place % sizes.cols + 1 }

-- the code of the value that the cell at a place has after a log, and whether an entry touches it
abbrev pub place_worth : SheetValue → List Entry → ℕ → ℕ
place_worth opening log place = code_of (value_of (after opening log) (cell_at opening.sizes place))

abbrev pub TouchesPlace : SheetValue → List Entry → Entry → ℕ → Type 0
TouchesPlace opening log entry place = Touches opening log entry (cell_at opening.sizes place)

-- a cell of a rectangle is the cell at its place
abbrev pub CellsAreAtTheirPlaces : Type 0
CellsAreAtTheirPlaces = (sizes : Sizes) (cell : Position) → IsTrue (is_inside sizes cell) → cell_at sizes (place_of sizes cell) ≡ cell

-- the cell at one of a rectangle's places is a cell of it, and has that place
abbrev pub PlacesAreThoseOfTheirCells : Type 0
PlacesAreThoseOfTheirCells =
    (sizes : Sizes) (place : ℕ) → place < cell_count sizes
    → IsTrue (is_inside sizes (cell_at sizes place)) × (place_of sizes (cell_at sizes place) ≡ place)

-- to touch the place of a cell of the sheet is to touch the cell
abbrev pub TouchedPlacesAreTouchedCells : Type 0
TouchedPlacesAreTouchedCells =
    (opening : SheetValue) (log : List Entry) (entry : Entry) (cell : Position) → IsTrue (is_inside opening.sizes cell)
    → TouchesPlace opening log entry (place_of opening.sizes cell) ↔ Touches opening log entry cell

-- the places that an entry touches, which changes cells of the sheet, are those of the cells in the list of what it touches,
-- and places of the sheet
abbrev pub TouchedPlacesAreListed : Type 0
TouchedPlacesAreListed =
    (opening : SheetValue) (log : List Entry) (entry : Entry) (cells : List Position)
    → AreInSheet opening entry.edit → AreTouched opening log entry cells → (place : ℕ)
    → (TouchesPlace opening log entry place ↔ Contains (map (place_of opening.sizes) cells) place)
    × (TouchesPlace opening log entry place → place < cell_count opening.sizes)
