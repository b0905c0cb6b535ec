-- Cells and ranges, as positions and as sets of positions.
use Rattle.std.specs.Prelude.{ℕ, ◌+◌, ◌-◌, ◌≤◌, ◌↔◌, min, max, List, map, flat_map, Contains}
use Rattle.std.specs.List.{range_with_len}

-- where a cell is: its row and its column, both counted from 1
pub record Position : Type 0 where
  pub row : ℕ
  pub col : ℕ

-- the positions that have a name: rows 1 to 1048576, columns A to XFD
pub record IsNamed (row col : ℕ) : Type 0 where
  pub row_from : 1 ≤ row
  pub row_to : row ≤ 1048576
  pub col_from : 1 ≤ col
  pub col_to : col ≤ 16384

-- two opposite corners of a rectangle
pub record Corners : Type 0 where
  pub head : Position
  pub tail : Position

-- the head is the top left corner and the tail the bottom right one
pub record IsOrdered (head tail : Position) : Type 0 where
  pub rows : head.row ≤ tail.row
  pub cols : head.col ≤ tail.col

-- a range as a set: a cell is in it where it lies between the corners
pub record IsIn (cell : Position) (range : Corners) : Type 0 where
  pub row_from : range.head.row ≤ cell.row
  pub row_to : cell.row ≤ range.tail.row
  pub col_from : range.head.col ≤ cell.col
  pub col_to : cell.col ≤ range.tail.col

-- each cell of the one range is a cell of the other
abbrev pub IsWithin : Corners → Corners → Type 0
IsWithin inner outer = (cell : Position) → IsIn cell inner → IsIn cell outer

-- a range lies within every range that has both cells
abbrev pub IsSmallestWith : Position → Position → Corners → Type 0
IsSmallestWith a b smallest = (range : Corners) → IsIn a range → IsIn b range → IsWithin smallest range

-- the corners of the smallest rectangle with both cells
abbrev pub span_of : Position → Position → Corners
span_of a b = record {
  head = record { row = min a.row b.row; col = min a.col b.col };
  tail = record { row = max a.row b.row; col = max a.col b.col };
}

-- how many rows and how many columns a range has
abbrev pub height : Corners → ℕ
height range = range.tail.row + 1 - range.head.row

abbrev pub width : Corners → ℕ
width range = range.tail.col + 1 - range.head.col

-- the rows and the columns of a range, in order
abbrev pub rows_of : Corners → List ℕ
rows_of range = range_with_len range.head.row (height range)

abbrev pub cols_of : Corners → List ℕ
cols_of range = range_with_len range.head.col (width range)

-- the cells of a row of a range, from left to right
abbrev pub row_cells : Corners → ℕ → List Position
row_cells range row = map (λ col. record { row = row; col = col }) (cols_of range)

-- all cells of a range, row by row
abbrev pub cells_of : Corners → List Position
cells_of range = flat_map (row_cells range) (rows_of range)

-- a list has exactly the cells of a range
abbrev pub ListsCells : List Position → Corners → Type 0
ListsCells cells range = (cell : Position) → Contains cells cell ↔ IsIn cell range
