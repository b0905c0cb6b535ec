-- The pairs of a sheet: each cell whose formula refers to a range, with that range.
use Rattle.std.specs.Prelude.{◌≡◌, ◌↔◌, List, length, Contains}
use Rattle.sheet_refs.specs.Sizes.{cell_count}
use Rattle.sheet_model.specs.Ranges.{ranges_in}
use Rattle.sheet_model.specs.Sheets.{SheetValue, content_of}
use Rattle.graph_walk.specs.Graphs.{Pair}

-- a cell whose formula refers to a range
abbrev pub IsPairOf : SheetValue → Pair → Type 0
IsPairOf sheet pair = Contains (ranges_in (content_of sheet pair.cell)) pair.range

-- the pairs of a graph are those of a sheet
abbrev pub ArePairsOf : SheetValue → List Pair → Type 0
ArePairsOf sheet pairs = (pair : Pair) → Contains pairs pair ↔ IsPairOf sheet pair

-- something stands in each cell
abbrev pub IsFilled : SheetValue → Type 0
IsFilled sheet = length sheet.contents ≡ cell_count sheet.sizes

-- there is no pair
abbrev pub HasNoPairs : List Pair → Type 0
HasNoPairs pairs = (pair : Pair) → ¬ Contains pairs pair
