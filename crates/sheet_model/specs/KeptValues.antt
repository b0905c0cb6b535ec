-- Values of a sheet's cells that are kept from one question to the next, and through edits of the sheet.
use Rattle.std.specs.Prelude.{◌≡◌, IsTrue, ℕ, ◌+◌, ◌≤◌, List, Contains}
use Rattle.sheet_refs.specs.Cells.{Position}
use Rattle.sheet_refs.specs.Sizes.{is_inside, place_of}
use Rattle.sheet_refs.specs.declared.sizes.Sizes.{Sizes}
use Rattle.sheet_model.specs.Sheets.{SheetValue, IsSheet}
use Rattle.sheet_model.specs.Values.{value_of, HasCode}
use Rattle.sheet_model.specs.Walks.{IsStoredWalk, IsKnownAt, cells_left, walk_states}
use Rattle.sheet_model.specs.declared.kept_values.KeptValues.{KeptValues}

-- each value that is kept of a cell is the one that the sheet gives it, and the cells that wait for others are those of a walk
-- over the sheet
pub record KeepsValuesOf (sheet : SheetValue) (kept : KeptValues) : Type 0 where
  pub walk : IsStoredWalk sheet kept.walk

-- another sheet of the same sizes gives the cells that aren't listed the same values
pub record HasSameValuesBeside (sheet : SheetValue) (cells : List Position) (other : SheetValue) : Type 0 where
  pub is_sheet : IsSheet other
  pub sizes : other.sizes ≡ sheet.sizes
  pub same : (cell : Position) → IsTrue (is_inside sheet.sizes cell) → ¬ Contains cells cell → value_of other cell ≡ value_of sheet cell

-- what is kept are values of each such sheet
abbrev pub ForgetsValues : SheetValue → List Position → KeptValues → Type 0
ForgetsValues sheet cells kept = (other : SheetValue) → HasSameValuesBeside sheet cells other → KeepsValuesOf other kept

-- a value is kept of the cell
abbrev pub HoldsValue : Sizes → KeptValues → Position → Type 0
HoldsValue sizes kept cell = IsKnownAt (walk_states kept.walk) (place_of sizes cell)

-- what was kept before is kept still
abbrev pub HoldsNoLess : Sizes → KeptValues → KeptValues → Type 0
HoldsNoLess sizes old new = (cell : Position) → HoldsValue sizes old cell → HoldsValue sizes new cell

-- the codes have the one of each value that is kept, at the place of its cell
abbrev pub TellCodes : KeptValues → List ℕ → Type 0
TellCodes kept codes = (sheet : SheetValue) (cell : Position) → KeepsValuesOf sheet kept → IsTrue (is_inside sheet.sizes cell)
    → HoldsValue sheet.sizes kept cell → HasCode sheet codes cell

-- what is left to do of the walk to all values has become less by as many steps as were taken, or by more
abbrev pub ComesNearer : KeptValues → KeptValues → ℕ → ℕ → Type 0
ComesNearer old new before after = cells_left new.walk + before ≤ cells_left old.walk + after
