-- How the pairs of a run of cells come, whose ranges follow one another down a column.
use Rattle.std.specs.Prelude.{◌≡◌, ◌↔◌, ◌⊎◌, ◌-◌, List, Option}
use Rattle.sheet_refs.specs.Cells.{Position, Corners, IsIn}
use Rattle.graph_walk.specs.Series.{SeriesValue, range_in}
use Rattle.edge_patterns.specs.Edges.{EdgeValue}
use Rattle.taco_graph.specs.Stores.{IsKeptPair}

-- a cell of a run, with its range by a series
abbrev pub IsPairOfSeries : Corners → SeriesValue → Corners → Position → Type 0
IsPairOfSeries run series range cell = IsIn cell run × (range ≡ range_in series (cell.row - run.head.row))

-- none of these pairs is kept
abbrev pub IsSeriesApart : List (Option EdgeValue) → Corners → SeriesValue → Type 0
IsSeriesApart slots run series = (range : Corners) (cell : Position) → IsPairOfSeries run series range cell → ¬ IsKeptPair slots range cell

-- these pairs have come, and no other pair has changed
abbrev pub GainsSeries : List (Option EdgeValue) → List (Option EdgeValue) → Corners → SeriesValue → Type 0
GainsSeries old new run series =
    (range : Corners) (cell : Position) → IsKeptPair new range cell ↔ (IsPairOfSeries run series range cell ⊎ IsKeptPair old range cell)
