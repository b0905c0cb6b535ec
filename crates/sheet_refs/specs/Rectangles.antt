-- What two ranges have in common, and what lists of ranges hold, over the cells of the ranges.
use Rattle.std.specs.Prelude.{ℕ, ◌+◌, ◌≡◌, ◌≤◌, ◌<◌, ◌↔◌, ◌⊎◌, List, Contains, All, AllPairs}
use Rattle.sheet_refs.specs.Cells.{Position, Corners, IsIn}

-- a cell is in both ranges
pub record IsShared (a b : Corners) (cell : Position) : Type 0 where
  pub first : IsIn cell a
  pub second : IsIn cell b

-- a range has exactly the cells that two others share
abbrev pub HoldsShared : Corners → Corners → Corners → Type 0
HoldsShared a b range = (cell : Position) → IsIn cell range ↔ IsShared a b cell

-- two ranges overlap where they share a cell
abbrev pub Overlap : Corners → Corners → Type 0
Overlap a b = (cell : Position) × IsShared a b cell

-- a list of ranges as a set of cells: a cell is among them where it is in one of them
pub record IsAmong (ranges : List Corners) (cell : Position) : Type 0 where
  pub range : Corners
  pub listed : Contains ranges range
  pub inside : IsIn cell range

-- no two ranges of a list share a cell
abbrev pub AreDisjoint : List Corners → Type 0
AreDisjoint ranges = AllPairs (λ a b. ¬ Overlap a b) ranges

-- the ranges tile a set of cells: they are disjoint, and hold its cells and no others
pub record Tile (ranges : List Corners) (cells : Position → Type 0) : Type 0 where
  pub disjoint : AreDisjoint ranges
  pub exact : (cell : Position) → IsAmong ranges cell ↔ cells cell

-- the cells of the one range that are not in the other
pub record IsLeft (range other : Corners) (cell : Position) : Type 0 where
  pub inside : IsIn cell range
  pub outside : ¬ IsIn cell other

-- the cells of some rows and columns, each counted from the first to the one before the end
pub record IsBetween (top bottom left right : ℕ) (cell : Position) : Type 0 where
  pub row_from : top ≤ cell.row
  pub row_below : cell.row < bottom
  pub col_from : left ≤ cell.col
  pub col_below : cell.col < right

-- a range of one column
pub record IsVertical (range : Corners) : Type 0 where
  pub one_column : range.head.col ≡ range.tail.col
  pub ordered : range.head.row ≤ range.tail.row

-- one range stands before another: in a column to the left, or above it in the same column with a cell between them
abbrev pub IsBefore : Corners → Corners → Type 0
IsBefore a b = (a.tail.col < b.head.col) ⊎ ((a.tail.col ≡ b.head.col) × (a.tail.row + 1 < b.head.row))

-- the maximal vertical runs of the cells of a list, by column and then by row: since a cell stands between
-- two runs of a column that is in neither, none can be joined to another
pub record AreMaximalRuns (runs : List Corners) : Type 0 where
  pub vertical : All IsVertical runs
  pub in_order : AllPairs IsBefore runs

-- a set of cells has gained those of a range, and no others
abbrev pub Joins : List Corners → List Corners → Corners → Type 0
Joins old new range = (cell : Position) → IsAmong new cell ↔ (IsAmong old cell ⊎ IsIn cell range)

-- the cells of a range that a set doesn't have
pub record IsNew (set : List Corners) (range : Corners) (cell : Position) : Type 0 where
  pub inside : IsIn cell range
  pub absent : ¬ IsAmong set cell
