-- A walk over a graph, in either direction.
use Rattle.std.specs.Prelude.{◌⊎◌, ◌↔◌, List}
use Rattle.sheet_refs.specs.Cells.{Position, Corners, IsIn}
use Rattle.sheet_refs.specs.Rectangles.{IsAmong}
use Rattle.graph_walk.specs.Graphs.{Pair, Step, Adds}
use Rattle.graph_walk.specs.Paths.{IsReached, LeadsTo, back}
use Rattle.graph_walk.specs.declared.walk.Direction.{Direction}
use Rattle.graph_walk.specs.declared.walk.Direction.TheVariants.{Ahead, Behind}

-- a step of a walk: to a cell that depends directly on one, or on which it depends
abbrev pub step_in : Direction → List Pair → Position → Position → Type 0
step_in Ahead pairs = Step pairs
step_in Behind pairs = back (Step pairs)

-- a cell is one step, or at least one, from a cell of a range
abbrev pub IsNext : (Position → Position → Type 0) → Corners → Position → Type 0
IsNext step range cell = (from : Position) × IsIn from range × step from cell

abbrev pub IsBeyond : (Position → Position → Type 0) → Corners → Position → Type 0
IsBeyond step range cell = (from : Position) × IsIn from range × LeadsTo step from cell

-- ranges were added that hold all next cells of a range, and only cells at least one step from it
abbrev pub AddsNext : Direction → List Pair → Corners → List Corners → List Corners → Type 0
AddsNext direction pairs range old new =
    Adds old new (IsNext (step_in direction pairs) range) (IsBeyond (step_in direction pairs) range)

-- a set has exactly the cells that a walk reaches from some ranges
abbrev pub IsWalk : Direction → List Pair → List Corners → List Corners → Type 0
IsWalk direction pairs starts set = (cell : Position) → IsAmong set cell ↔ IsReached (step_in direction pairs) (IsAmong starts) cell

-- how far a walk has come: its set is reached, has the starts, and has each next cell of each of its cells that doesn't wait
pub record IsWalking (step : Position → Position → Type 0) (starts set waiting : List Corners) : Type 0 where
  pub sound : (cell : Position) → IsAmong set cell → IsReached step (IsAmong starts) cell
  pub begun : (cell : Position) → IsAmong starts cell → IsAmong set cell
  pub waits : (cell : Position) → IsAmong waiting cell → IsAmong set cell
  pub done : (from to : Position) → IsAmong set from → step from to → IsAmong set to ⊎ IsAmong waiting from
