-- What is true of a graph after any list of calls that change it.
use Rattle.std.specs.Prelude.{◌≡◌, ◌↔◌, ◌⊎◌, List, [], ◌∷◌, ◌++◌, Contains}
use Rattle.sheet_refs.specs.Cells.{Position, Corners}
use Rattle.graph_walk.specs.Graphs.{Pair, SamePairs, Replaces}

-- a call that changes a graph: `replace` of a cell by some ranges, or `reserve`
pub data Call : Type 0 where
  replacement : Position → List Corners → Call
  reservation : Call

-- what a call does to the pairs
abbrev pub Does : Call → List Pair → List Pair → Type 0
Does (replacement cell ranges) old new = Replaces old new cell ranges
Does reservation old new = SamePairs old new

-- the pairs that were there first have become these after some calls, of which the last stands first
abbrev pub After : List Pair → List Call → List Pair → Type 0
After first [] pairs = SamePairs first pairs
After first (call ∷ calls) pairs = (before : List Pair) × After first calls before × Does call before pairs

-- no call replaces the ranges of the cell
abbrev pub LeaveCell : List Call → Position → Type 0
LeaveCell calls cell = (ranges : List Corners) → ¬ Contains calls (replacement cell ranges)

-- the last call that replaces the ranges of the cell gave it these
pub record IsLastFor (calls : List Call) (cell : Position) (ranges : List Corners) : Type 0 where
  pub later : List Call
  pub earlier : List Call
  pub split : calls ≡ later ++ replacement cell ranges ∷ earlier
  pub none_later : LeaveCell later cell

-- a pair by its parts
abbrev pub pair_of : Corners → Position → Pair
pair_of range cell = record { range = range; cell = cell }

-- after any list of calls a cell has exactly the ranges that the last call for it gave
abbrev pub LastCallsAreLeft : Type 0
LastCallsAreLeft =
    (first : List Pair) (calls : List Call) (pairs : List Pair) (cell : Position) (ranges : List Corners)
    → After first calls pairs → IsLastFor calls cell ranges
    → (range : Corners) → Contains pairs (pair_of range cell) ↔ Contains ranges range

-- and where no call was for it, the ranges that it had first
abbrev pub OtherCellsAreKept : Type 0
OtherCellsAreKept =
    (first : List Pair) (calls : List Call) (pairs : List Pair) (cell : Position) → After first calls pairs → LeaveCell calls cell
    → (range : Corners) → Contains pairs (pair_of range cell) ↔ Contains first (pair_of range cell)

-- each cell is one or the other
abbrev pub CellsAreReplacedOrLeft : Type 0
CellsAreReplacedOrLeft = (calls : List Call) (cell : Position) → LeaveCell calls cell ⊎ ((ranges : List Corners) × IsLastFor calls cell ranges)
