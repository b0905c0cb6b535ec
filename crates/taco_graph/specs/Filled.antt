-- Columns that are filled down.
use Rattle.std.specs.Prelude.{◌≡◌, ◌⊎◌, ℕ, ◌+◌, ◌-◌, ◌≤◌, List, [], ◌∷◌}
use Rattle.sheet_refs.specs.Cells.{Position, Corners, IsIn}
use Rattle.graph_walk.specs.Calls.{Call, replacement, IsLastFor, LeaveCell}
use Rattle.edge_patterns.specs.Edges.{IsRange}

-- the cell so many rows below the first one of a column
abbrev pub cell_below : Corners → ℕ → Position
cell_below run rows = record { row = run.head.row + rows; col = run.head.col }

-- a range moved down by so many rows
abbrev pub moved_down : Corners → ℕ → Corners
moved_down range rows = record {
  head = record { row = range.head.row + rows; col = range.head.col };
  tail = record { row = range.tail.row + rows; col = range.tail.col };
}

-- a column and the range of its first cell, which has a name also where it is moved down to the last one
pub record CanBeFilled (run first : Corners) : Type 0 where
  pub run_named : IsRange run
  pub column : run.head.col ≡ run.tail.col
  pub first_named : IsRange first
  pub last_named : first.tail.row + (run.tail.row - run.head.row) ≤ 1048576

-- calls, in whatever order, of which the last one for each cell of a column gave it the first one's range, moved down with the cell,
-- and gave nothing to any other cell
pub record FillDown (calls : List Call) (run first : Corners) : Type 0 where
  pub each : (rows : ℕ) → run.head.row + rows ≤ run.tail.row → IsLastFor calls (cell_below run rows) (moved_down first rows ∷ [])
  pub others : (cell : Position) → ¬ IsIn cell run → LeaveCell calls cell ⊎ IsLastFor calls cell []

-- the range of one cell
abbrev pub one_cell : ℕ → ℕ → Corners
one_cell row col = record { head = record { row = row; col = col }; tail = record { row = row; col = col } }

-- B1 and B2
abbrev pub two_cells : Corners
two_cells = record { head = record { row = 1; col = 2 }; tail = record { row = 2; col = 2 } }

-- they get the cells to their left, B1 last
abbrev pub two_calls : List Call
two_calls = replacement (record { row = 1; col = 2 }) (one_cell 1 1 ∷ []) ∷ replacement (record { row = 2; col = 2 }) (one_cell 2 1 ∷ []) ∷ []
