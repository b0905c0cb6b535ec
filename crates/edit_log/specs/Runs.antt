-- Runs of cells down a column, in which the ranges of each cell follow those of the cell above.
use Rattle.std.specs.Prelude.{◌≡◌, ◌≢◌, ◌⊎◌, ℕ, ◌+◌, ◌-◌, ◌<◌, ◌≤◌, List, [], ◌∷◌, length, map, slice_index_or}
use Rattle.sheet_refs.specs.Cells.{Position, Corners}
use Rattle.sheet_refs.specs.Refs.{AreRefs}
use Rattle.formula_syntax.specs.Listing.{IsOnceEach}
use Rattle.graph_walk.specs.Graphs.{Pair}
use Rattle.graph_walk.specs.Series.{SeriesValue, GoOn, range_in}
use Rattle.sheet_model.specs.Ranges.{ranges_in}
use Rattle.sheet_model.specs.Sheets.{SheetValue, content_of}
use Rattle.edit_log.specs.Waiting.{HasPairsBefore}
use Rattle.edit_log.specs.declared.runs.Run.{Run}
use Rattle.edit_log.specs.declared.waiting.Waiting.{Waiting}

-- the cell so many rows below another
abbrev pub down : Position → ℕ → Position
down cell index = record { row = cell.row + index; col = cell.col }

-- the range of so many cells, of which this is the uppermost
abbrev pub cells_down : Position → ℕ → Corners
cells_down cell count = record { head = cell; tail = down cell (count - 1) }

-- the series whose ranges at the first cell and at the last are these, place by place
abbrev pub series_of : List Corners → List Corners → List SeriesValue
series_of [] lasts = []
series_of (first ∷ firsts) [] = []
series_of (first ∷ firsts) (last ∷ lasts) = record { first = first; last = last } ∷ series_of firsts lasts

-- the ranges by some series of the cell with this index, counted from 0
abbrev pub ranges_at : List SeriesValue → ℕ → List Corners
ranges_at series index = map (λ one. range_in one index) series

-- the row behind so many rows, of which these are the first and the last: it stays, as they do, or it goes on by one from
-- each to the next, as they do
abbrev pub IsNextRow : ℕ → ℕ → ℕ → ℕ → Type 0
IsNextRow count first last next = ((last ≡ first) × (next ≡ first)) ⊎ (((count ≡ 1) ⊎ (last ≢ first)) × (next ≡ first + count))

-- an end of a range goes on with those of so many cells
pub record EndFollows (count : ℕ) (first last next : Position) : Type 0 where
  pub col : next.col ≡ first.col
  pub row : IsNextRow count first.row last.row next.row

-- and so do both ends
pub record RangeFollows (count : ℕ) (first last next : Corners) : Type 0 where
  pub head : EndFollows count first.head last.head next.head
  pub tail : EndFollows count first.tail last.tail next.tail

-- and so does each range of a list
pub record Follow (count : ℕ) (first last next : List Corners) : Type 0 where
  pub as_many : length next ≡ length first
  pub each : (place : ℕ) (d : Corners) → place < length first
      → RangeFollows count (slice_index_or first place d) (slice_index_or last place d) (slice_index_or next place d)

-- the ranges of the first and of the last of so many cells, where the formula of each names the ranges that the series have
-- for it; the formulas are given by what they name
pub record IsRun (named : ℕ → List Corners) (count : ℕ) (first last : List Corners) : Type 0 where
  pub some : 1 ≤ count
  pub as_many : length last ≡ length first
  pub few : length first ≤ 255
  pub ends : (place : ℕ) (d : Corners) → place < length first
      → GoOn (count - 1) (record { first = slice_index_or first place d; last = slice_index_or last place d })
  pub listed : (index : ℕ) → index < count → IsOnceEach (named index) (ranges_at (series_of first last) index)

-- such a run of cells of a sheet, of which this is the uppermost
abbrev pub IsRunOf : SheetValue → Position → ℕ → List Corners → List Corners → Type 0
IsRunOf sheet cell = IsRun (λ index. ranges_in (content_of sheet (down cell index)))

-- how far the cells of a column go on: so many, which all lie in the sheet and have names
pub record GoTo (sheet : SheetValue) (cell : Position) (count : ℕ) : Type 0 where
  pub some : 1 ≤ count
  pub inside : cell.row + count ≤ sheet.sizes.rows + 1
  pub named : cell.row + count ≤ 1048577

-- a run, with what the formula of its first cell names, goes on so far
pub record IsRunFrom (sheet : SheetValue) (cell : Position) (run : Run) : Type 0 where
  pub goes : GoTo sheet cell run.count
  pub follow : IsRunOf sheet cell run.count run.first.now run.last.now
  pub refs : AreRefs run.first.now
  pub once : IsOnceEach (ranges_in (content_of sheet cell)) run.first.now

-- the pairs of the cells that go on so far have come to those of the cells before them, or wait as some of those do
pub record AreAdded (sheet : SheetValue) (cell : Position) (pairs : List Pair) (waiting : Waiting) (count : ℕ) : Type 0 where
  pub before : HasPairsBefore sheet cell.col (cell.row + count) pairs waiting
  pub goes : GoTo sheet cell count
