-- Ranges that follow one another down a column, one for each cell of a run.
use Rattle.std.specs.Prelude.{◌≡◌, ◌≢◌, ◌↔◌, ◌⊎◌, ℕ, ◌+◌, ◌-◌, ◌<◌, ◌≤◌, ◌==◌, if◌then◌else◌, List, length, Contains, All, AllPairs}
use Rattle.sheet_refs.specs.Cells.{Position, Corners, IsIn}
use Rattle.graph_walk.specs.Graphs.{Pair}

-- the range of the first cell of a run, and that of the last
pub record SeriesValue : Type 0 where
  pub first : Corners
  pub last : Corners

-- an end of the range of the cell with this index, counted from 0: its row stays, where it is the same at the first and at
-- the last cell, and else goes on by one from each cell to the next
abbrev pub end_at : Position → Position → ℕ → Position
end_at first last index = record { row = if first.row == last.row then first.row else first.row + index; col = first.col }

-- the range of that cell
abbrev pub range_in : SeriesValue → ℕ → Corners
range_in series index = record {
  head = end_at series.first.head series.last.head index;
  tail = end_at series.first.tail series.last.tail index;
}

-- over so many steps from one cell to the next, an end stays in its column, and in its row or goes on by a row at each step
pub record GoesOn (steps : ℕ) (first last : Position) : Type 0 where
  pub col : last.col ≡ first.col
  pub row : (last.row ≡ first.row) ⊎ (last.row ≡ first.row + steps)

-- and so do both ends of a range
pub record GoOn (steps : ℕ) (series : SeriesValue) : Type 0 where
  pub head : GoesOn steps series.first.head series.last.head
  pub tail : GoesOn steps series.first.tail series.last.tail

-- how many steps lead from the first cell of a run to the last
abbrev pub steps_of : Corners → ℕ
steps_of run = run.tail.row - run.head.row

-- no cell of a run has the same range by two series
abbrev pub Differ : ℕ → SeriesValue → SeriesValue → Type 0
Differ steps a b = (index : ℕ) → index ≤ steps → range_in a index ≢ range_in b index

-- a run of several cells in one column, whose cells may have the ranges of these series
pub record FollowDown (run : Corners) (series : List SeriesValue) : Type 0 where
  pub line : run.tail.col ≡ run.head.col
  pub several : run.head.row < run.tail.row
  pub few : length series ≤ 255
  pub ends : All (GoOn (steps_of run)) series
  pub distinct : AllPairs (Differ (steps_of run)) series

-- no pair is one of a cell of the run
abbrev pub LackRun : List Pair → Corners → Type 0
LackRun pairs run = (pair : Pair) → Contains pairs pair → ¬ IsIn pair.cell run

-- a cell of a run, with its range by one of the series
pub record IsOfRun (run : Corners) (series : List SeriesValue) (pair : Pair) : Type 0 where
  pub inside : IsIn pair.cell run
  pub one : SeriesValue
  pub listed : Contains series one
  pub range_is : pair.range ≡ range_in one (pair.cell.row - run.head.row)

-- these pairs have come, and no other pair has changed
abbrev pub AddsRun : List Pair → List Pair → Corners → List SeriesValue → Type 0
AddsRun old new run series = (pair : Pair) → Contains new pair ↔ (IsOfRun run series pair ⊎ Contains old pair)
