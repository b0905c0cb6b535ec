-- How a set of cells and a list of ranges to be walked on from grow.
use Rattle.std.specs.Prelude.{◌≡◌, ℕ, ◌+◌, ◌≤◌, ◌⊎◌, ◌↔◌, ◌&&◌, not, nat_le, Bool, List, [], ◌∷◌, ◌++◌, length, take, if◌then◌else◌}
use Rattle.std.specs.List.{list_any}
use Rattle.sheet_refs.specs.Cells.{Position, Corners, IsIn, cells_of}
use Rattle.sheet_refs.specs.Rectangles.{IsAmong}

-- whether a cell is in a range, or in one of some ranges
abbrev pub is_in : Position → Corners → Bool
is_in cell range = (nat_le range.head.row cell.row && nat_le cell.row range.tail.row) && (nat_le range.head.col cell.col && nat_le cell.col range.tail.col)

abbrev pub is_among : List Corners → Position → Bool
is_among ranges cell = list_any (is_in cell) ranges

-- how many of some cells pass a test
abbrev pub count_where : (Position → Bool) → List Position → ℕ
count_where test [] = 0
count_where test (cell ∷ cells) = (if test cell then 1 else 0) + count_where test cells

-- all cells that have a name
unfoldable pub all_cells : List Position
all_cells = cells_of (record { head = record { row = 1; col = 1 }; tail = record { row = 1048576; col = 16384 } })

-- how many of them are not in some ranges
unfoldable pub absent : List Corners → ℕ
absent ranges = count_where (λ cell. not (is_among ranges cell)) all_cells

-- a set has gained some ranges' cells, and what was new in them waits as further ranges
pub record Gathers (old new waited waiting : List Corners) (cells : Position → Type 0) : Type 0 where
  pub added : List Corners
  pub waits : waiting ≡ waited ++ added
  pub gained : (cell : Position) → IsAmong new cell ↔ (IsAmong old cell ⊎ IsAmong added cell)
  pub only : (cell : Position) → IsAmong added cell → cells cell
  pub all : (cell : Position) → cells cell → IsAmong new cell
  pub fewer : absent new + length added ≤ absent old

-- the same of the cells of one range, and of those of some ranges
abbrev pub Admits : List Corners → List Corners → List Corners → List Corners → Corners → Type 0
Admits old new waited waiting range = Gathers old new waited waiting (λ cell. IsIn cell range)

abbrev pub GathersAll : List Corners → List Corners → List Corners → List Corners → List Corners → Type 0
GathersAll old new waited waiting found = Gathers old new waited waiting (IsAmong found)

-- a range has the cells of two others, and no other
abbrev pub IsUnionOf : Corners → Corners → Corners → Type 0
IsUnionOf one other whole = (cell : Position) → IsIn cell whole ↔ (IsIn cell one ⊎ IsIn cell other)

-- the cells of the ranges of a list before one place are those of the ranges before another, and of a run
abbrev pub IsRunFrom : List Corners → ℕ → ℕ → Corners → Type 0
IsRunFrom found from end run = (cell : Position) → IsAmong (take end found) cell ↔ (IsAmong (take from found) cell ⊎ IsIn cell run)
