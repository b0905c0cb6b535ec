-- What several ranges reach together.
use Rattle.std.specs.Prelude.{◌↔◌, List, Contains}
use Rattle.sheet_refs.specs.Cells.{Position, Corners}
use Rattle.sheet_refs.specs.Rectangles.{IsAmong}
use Rattle.graph_walk.specs.Graphs.{Pair, Step, Reach}
use Rattle.graph_walk.specs.Paths.{IsReached}

-- the cells of some ranges and all that depend on them, in any number of steps
abbrev pub ReachOfAll : List Pair → List Corners → Position → Type 0
ReachOfAll pairs ranges cell = IsReached (Step pairs) (IsAmong ranges) cell

-- a set has exactly these cells
abbrev pub HoldsReachOfAll : List Pair → List Corners → List Corners → Type 0
HoldsReachOfAll pairs ranges set = (cell : Position) → IsAmong set cell ↔ ReachOfAll pairs ranges cell

-- they are the cells that some range of the list reaches
abbrev pub AllReachWhatEachReaches : Type 0
AllReachWhatEachReaches =
    (pairs : List Pair) (ranges : List Corners) (cell : Position)
    → ReachOfAll pairs ranges cell ↔ ((range : Corners) × Contains ranges range × Reach pairs range cell)
