-- The dependency graph of a sheet as a set of pairs, and what cells depend on by them.
use Rattle.std.specs.Prelude.{◌≡◌, ◌≢◌, ◌↔◌, ◌⊎◌, List, ◌++◌, Contains}
use Rattle.sheet_refs.specs.Cells.{Position, Corners, IsIn}
use Rattle.sheet_refs.specs.Rectangles.{IsAmong}
use Rattle.graph_walk.specs.Paths.{IsPath, IsReached, LeadsTo}

-- a cell whose formula refers to a range
pub record Pair : Type 0 where
  pub range : Corners
  pub cell : Position

-- the one cell is in a range to which the other refers: the other depends directly on it
pub record Step (pairs : List Pair) (from to : Position) : Type 0 where
  pub pair : Pair
  pub listed : Contains pairs pair
  pub inside : IsIn from pair.range
  pub cell_is : pair.cell ≡ to

-- the cells of a range and all that depend on them, in any number of steps: each stands at the end of a
-- list of cells that begins in the range and in which each next cell depends directly on the one before
abbrev pub Reach : List Pair → Corners → Position → Type 0
Reach pairs range cell = IsReached (Step pairs) (λ from. IsIn from range) cell

-- the cells of a range and all on which they depend, in any number of steps: each stands at the start of
-- such a list that ends in the range
pub record Back (pairs : List Pair) (range : Corners) (cell : Position) : Type 0 where
  pub to : Position
  pub ends : IsIn to range
  pub cells : List Position
  pub path : IsPath (Step pairs) cell cells to

-- a list with at least one step leads from the cell to itself
abbrev pub IsOnCycle : List Pair → Position → Type 0
IsOnCycle pairs cell = LeadsTo (Step pairs) cell cell

-- a cell depends directly, or in at least one step, on a cell of a range
abbrev pub IsDirectDependent : List Pair → Corners → Position → Type 0
IsDirectDependent pairs range cell = (from : Position) × IsIn from range × Step pairs from cell

abbrev pub IsDependent : List Pair → Corners → Position → Type 0
IsDependent pairs range cell = (from : Position) × IsIn from range × LeadsTo (Step pairs) from cell

-- a cell of a range depends directly, or in at least one step, on a cell
abbrev pub IsDirectPrecedent : List Pair → Corners → Position → Type 0
IsDirectPrecedent pairs range cell = (to : Position) × IsIn to range × Step pairs cell to

abbrev pub IsPrecedent : List Pair → Corners → Position → Type 0
IsPrecedent pairs range cell = (to : Position) × IsIn to range × LeadsTo (Step pairs) cell to

-- a list has kept what it held
pub record Keeps (old new : List Corners) : Type 0 where
  pub added : List Corners
  pub whole : new ≡ old ++ added

-- ranges were added to a list that hold all cells of one set, and only cells of another
pub record Adds (old new : List Corners) (least most : Position → Type 0) : Type 0 where
  pub added : List Corners
  pub whole : new ≡ old ++ added
  pub all : (cell : Position) → least cell → IsAmong added cell
  pub only : (cell : Position) → IsAmong added cell → most cell

-- ranges were added whose cells are exactly the direct dependents, or the direct precedents, of a range
abbrev pub AddsDirectDependents : List Pair → Corners → List Corners → List Corners → Type 0
AddsDirectDependents pairs range old new = Adds old new (IsDirectDependent pairs range) (IsDirectDependent pairs range)

abbrev pub AddsDirectPrecedents : List Pair → Corners → List Corners → List Corners → Type 0
AddsDirectPrecedents pairs range old new = Adds old new (IsDirectPrecedent pairs range) (IsDirectPrecedent pairs range)

-- ranges were added that hold all of these, and only cells at least one step away in the same direction
abbrev pub AddsAhead : List Pair → Corners → List Corners → List Corners → Type 0
AddsAhead pairs range old new = Adds old new (IsDirectDependent pairs range) (IsDependent pairs range)

abbrev pub AddsBehind : List Pair → Corners → List Corners → List Corners → Type 0
AddsBehind pairs range old new = Adds old new (IsDirectPrecedent pairs range) (IsPrecedent pairs range)

-- the same pairs
abbrev pub SamePairs : List Pair → List Pair → Type 0
SamePairs old new = (pair : Pair) → Contains new pair ↔ Contains old pair

-- the pairs of one cell have become exactly those with some ranges, and no other pair has changed
abbrev pub Replaces : List Pair → List Pair → Position → List Corners → Type 0
Replaces old new cell refs =
    (pair : Pair) → Contains new pair ↔ (((pair.cell ≡ cell) × Contains refs pair.range) ⊎ ((pair.cell ≢ cell) × Contains old pair))

-- a set has exactly the cells of a range and all that depend on them, or on which they depend
abbrev pub HoldsReach : List Pair → Corners → List Corners → Type 0
HoldsReach pairs range set = (cell : Position) → IsAmong set cell ↔ Reach pairs range cell

abbrev pub HoldsBack : List Pair → Corners → List Corners → Type 0
HoldsBack pairs range set = (cell : Position) → IsAmong set cell ↔ Back pairs range cell
