-- Rectangles that begin at A1, by their sizes, and the places of cells in them.
use Rattle.std.specs.Prelude.{ℕ, ◌+◌, ◌-◌, ◌*◌, ◌/◌, ◌%◌, ◌≤◌, ◌↔◌, min, nat_le, Bool, ◌&&◌, IsTrue, IsFalse}
use Rattle.sheet_refs.specs.Cells.{Position, Corners, IsIn, width}
use Rattle.sheet_refs.specs.declared.sizes.Sizes.{Sizes}

-- whether the position lies in the rectangle
abbrev pub is_inside : Sizes → Position → Bool
is_inside sizes cell = (nat_le 1 cell.row && nat_le cell.row sizes.rows) && (nat_le 1 cell.col && nat_le cell.col sizes.cols)

-- the number of cells
abbrev pub cell_count : Sizes → ℕ
cell_count sizes = sizes.rows * sizes.cols

-- the place of a cell among the cells, row by row, counted from 0
abbrev pub place_of : Sizes → Position → ℕ
place_of sizes cell = (cell.row - 1) * sizes.cols + (cell.col - 1)

-- sizes all of whose cells have names
pub record AreNamed (sizes : Sizes) : Type 0 where
  pub rows : sizes.rows ≤ 1048576
  pub cols : sizes.cols ≤ 16384

-- the part of a range that lies in the rectangle, where its head does
abbrev pub part_inside : Sizes → Corners → Corners
part_inside sizes range = record {
  head = range.head;
  tail = record { row = min range.tail.row sizes.rows; col = min range.tail.col sizes.cols };
}

-- a part of a range has exactly its cells in the rectangle
abbrev pub HoldsPart : Sizes → Corners → Corners → Type 0
HoldsPart sizes range part = (cell : Position) → IsIn cell part ↔ (IsIn cell range × IsTrue (is_inside sizes cell))

-- no cell of a range lies in the rectangle
abbrev pub MissesRange : Sizes → Corners → Type 0
MissesRange sizes range = (cell : Position) → IsIn cell range → IsFalse (is_inside sizes cell)

-- the cell at a place of a range, row by row, counted from 0
abbrev pub cell_of_place : Corners → ℕ → Position
cell_of_place range place = record { row = range.head.row + place / width range; col = range.head.col + place % width range }
