-- Finding cells in an edit, by their places in the sheet; and following what they hold.
use Rattle.std.specs.Prelude.{◌≡◌, ◌<◌, ℕ, IsTrue, List, Option, Some, length, slice_get}
use Rattle.std.specs.BTreeMap.{get}
use Rattle.std.specs.Ordering.{nat_cmp}
use Rattle.sheet_refs.specs.Cells.{Position}
use Rattle.sheet_refs.specs.Sizes.{cell_count, is_inside, place_of}
use Rattle.sheet_refs.specs.declared.sizes.Sizes.{Sizes}
use Rattle.sheet_model.specs.Edits.{EditValue, after_edit, replaced_by}
use Rattle.sheet_model.specs.Sheets.{SheetValue}
use Rattle.sheet_model.specs.declared.entry.Entry.{Entry}
use Rattle.sheet_undo.specs.Undoing.{IsFirstAmong, ShareACell, changed_cells}
use Rattle.sheet_undo.specs.declared.entry_cells.EntryCells.{EntryCells}
use Rattle.sheet_undo.specs.declared.overtaking.Overtaker.{Overtaker}

-- what is looked up at the place of a cell of a list is where in the list it stands, and nothing else is found
pub record Finds (sizes : Sizes) (cells : List Position) (look : ℕ → Option ℕ) : Type 0 where
  pub each : (k : ℕ) (cell : Position) → slice_get cells k ≡ Some cell → look (place_of sizes cell) ≡ Some k
  pub only : (place k : ℕ) → look place ≡ Some k
      → (cell : Position) × (slice_get cells k ≡ Some cell)
      × IsTrue (is_inside sizes cell) × (place_of sizes cell ≡ place)

-- the cells that an edit of a rectangle's cells changes, ready to be found
abbrev pub AreCellsOf : EditValue → EntryCells → Type 0
AreCellsOf edit cells = Finds cells.sizes (changed_cells edit) (get nat_cmp cells.places)

-- each change of an edit says what its cell holds in a sheet
abbrev pub IsHeldIn : SheetValue → EditValue → Type 0
IsHeldIn sheet edit = replaced_by sheet edit ≡ edit

-- something stands in each cell of a sheet of these sizes
pub record HasCells (sizes : Sizes) (sheet : SheetValue) : Type 0 where
  pub sizes_are : sheet.sizes ≡ sizes
  pub filled : length sheet.contents ≡ cell_count sizes

-- the same cells: of each sheet, where the one edit says what they hold, the other says what they hold after more
-- changes
pub record Follows (sizes : Sizes) (changes old new : EditValue) : Type 0 where
  pub cells : changed_cells new ≡ changed_cells old
  pub held : (sheet : SheetValue) → HasCells sizes sheet → IsHeldIn sheet old
      → IsHeldIn (after_edit sheet changes) new

-- the first of some entries that changes a cell of an edit, and the first of the edit's cells that it changes
pub record IsFirstSharer (edit : EditValue) (log : List Entry) (found : Overtaker) : Type 0 where
  pub entry : Entry
  pub stands : slice_get log found.place ≡ Some entry
  pub before : (k : ℕ) (other : Entry) → k < found.place → slice_get log k ≡ Some other → ¬ ShareACell edit other.edit
  pub cell : IsFirstAmong (changed_cells entry.edit) (changed_cells edit) found.cell

-- none of them does
abbrev pub SharesNone : EditValue → List Entry → Type 0
SharesNone edit log = (k : ℕ) (other : Entry) → slice_get log k ≡ Some other → ¬ ShareACell edit other.edit
