-- A plain graph as contracts see it.
use Rattle.std.specs.Prelude.{◌≢◌, ◌↔◌, ℕ, List, [], ◌∷◌, Contains}
use Rattle.sheet_refs.specs.Cells.{Position, Corners}
use Rattle.graph_walk.specs.Graphs.{Pair}
use Rattle.graph_walk.specs.Series.{SeriesValue, AddsRun}

-- its pairs, and for how many changes of a cell there is room
pub record PlainValue : Type 0 where
  pub pairs : List Pair
  pub spare : ℕ

-- the pairs of one cell are gone, and all others are there still
abbrev pub DropsPairs : List Pair → List Pair → Position → Type 0
DropsPairs old new cell = (pair : Pair) → Contains new pair ↔ ((pair.cell ≢ cell) × Contains old pair)

-- the pairs of the cells of a run with their ranges of one series have come, and no other pair has changed
abbrev pub AddsSeries : List Pair → List Pair → Corners → SeriesValue → Type 0
AddsSeries old new run series = AddsRun old new run (series ∷ [])
