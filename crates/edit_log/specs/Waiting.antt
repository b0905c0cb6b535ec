-- Pairs of a sheet that are in a graph, and those of cells that wait: they come when all runs down have theirs.
use Rattle.std.specs.Prelude.{◌≡◌, ◌↔◌, ◌⊎◌, ◌<◌, ℕ, List, [], All, Contains}
use Rattle.sheet_refs.specs.Cells.{Position}
use Rattle.sheet_refs.specs.Sizes.{cell_count, place_of}
use Rattle.sheet_model.specs.Sheets.{SheetValue}
use Rattle.graph_walk.specs.Graphs.{Pair}
use Rattle.edit_log.specs.Pairs.{IsPairOf}
use Rattle.edit_log.specs.declared.waiting.Waiting.{Waiting}

-- places of cells of a sheet
abbrev pub AreInside : SheetValue → List ℕ → Type 0
AreInside sheet places = All (λ place. place < cell_count sheet.sizes) places

-- a pair of a sheet, whose cell is at one of some places
abbrev pub IsPairAt : SheetValue → List ℕ → Pair → Type 0
IsPairAt sheet places pair = Contains places (place_of sheet.sizes pair.cell) × IsPairOf sheet pair

-- pairs are those of a sheet
abbrev pub AreOfSheet : SheetValue → List Pair → Type 0
AreOfSheet sheet pairs = (pair : Pair) → Contains pairs pair → IsPairOf sheet pair

-- the pairs of the cells at some places have come
abbrev pub AddsPairsAt : SheetValue → List ℕ → List Pair → List Pair → Type 0
AddsPairsAt sheet places old new = (pair : Pair) → Contains new pair ↔ (Contains old pair ⊎ IsPairAt sheet places pair)

-- a pair is there, or its cell waits
abbrev pub IsThereOrWaits : SheetValue → List Pair → List ℕ → List ℕ → Pair → Type 0
IsThereOrWaits sheet pairs across alone pair = Contains pairs pair ⊎ (IsPairAt sheet across pair ⊎ IsPairAt sheet alone pair)

-- a cell comes before a row of a column, where cells are counted column by column, each from the top
abbrev pub IsBeforeRow : ℕ → ℕ → Position → Type 0
IsBeforeRow col row cell = (cell.col < col) ⊎ ((cell.col ≡ col) × (cell.row < row))

-- exactly the pairs of the sheet's cells that come before a row of a column are meant
abbrev pub AreThoseBefore : SheetValue → ℕ → ℕ → (Pair → Type 0) → Type 0
AreThoseBefore sheet col row Meant = (pair : Pair) → Meant pair ↔ (IsBeforeRow col row pair.cell × IsPairOf sheet pair)

-- and these are there, or their cells wait
pub record HasPairsBefore (sheet : SheetValue) (col row : ℕ) (pairs : List Pair) (waiting : Waiting) : Type 0 where
  pub each : AreThoseBefore sheet col row (IsThereOrWaits sheet pairs waiting.across.items waiting.alone.items)
  pub across : AreInside sheet waiting.across.items
  pub alone : AreInside sheet waiting.alone.items

-- the same of all pairs of a sheet
pub record AreThereOrWait (sheet : SheetValue) (pairs : List Pair) (waiting : Waiting) : Type 0 where
  pub each : (pair : Pair) → IsThereOrWaits sheet pairs waiting.across.items waiting.alone.items pair ↔ IsPairOf sheet pair
  pub across : AreInside sheet waiting.across.items
  pub alone : AreInside sheet waiting.alone.items

-- no cell waits
pub record HaveNoPlaces (waiting : Waiting) : Type 0 where
  pub across : waiting.across.items ≡ []
  pub alone : waiting.alone.items ≡ []
