-- Cells that are equally far from one, as lists of ranges.
use Rattle.std.specs.Prelude.{◌≡◌, ◌≤◌, ◌+◌, List, [], ◌∷◌, length}
use Rattle.sheet_refs.specs.Cells.{Position, Corners}
use Rattle.sheet_refs.specs.Rectangles.{IsAmong}
use Rattle.graph_walk.specs.Graphs.{Pair, Step}
use Rattle.graph_walk.specs.Paths.{IsPath}

-- a cell as a range
abbrev pub one_cell : Position → Corners
one_cell cell = record { head = cell; tail = cell }

-- a cell depends directly on one of some ranges
abbrev pub IsDirect : List Pair → List Corners → Position → Type 0
IsDirect pairs ranges cell = (from : Position) × IsAmong ranges from × Step pairs from cell

-- a cell depends directly on some cell of a level
abbrev pub HasStepTo : List Pair → List Corners → Position → Type 0
HasStepTo pairs level cell = (from : Position) × IsAmong level from × Step pairs from cell

-- and this is one
pub record IsStepFrom (pairs : List Pair) (level : List Corners) (cell before : Position) : Type 0 where
  pub among : IsAmong level before
  pub step : Step pairs before cell

-- no cell with a property is a cell of some ranges; or this is one
abbrev pub SharesNone : (Position → Type 0) → List Corners → Type 0
SharesNone Has others = (cell : Position) → Has cell → ¬ IsAmong others cell

pub record IsFoundIn (Has : Position → Type 0) (others : List Corners) (cell : Position) : Type 0 where
  pub has : Has cell
  pub among : IsAmong others cell

-- levels, the last one first: the first has the cell alone, and each cell of another depends directly on one of the level before
abbrev pub LeadFrom : List Pair → Position → List (List Corners) → Type 0
LeadFrom pairs from [] = ⊥
LeadFrom pairs from (level ∷ []) = (cell : Position) → IsAmong level cell → cell ≡ from
LeadFrom pairs from (level ∷ before ∷ levels) = ((cell : Position) → IsAmong level cell → HasStepTo pairs before cell) × LeadFrom pairs from (before ∷ levels)

-- a cell is one of the last level, which stands first
abbrev pub IsInLast : List (List Corners) → Position → Type 0
IsInLast [] cell = ⊥
IsInLast (level ∷ levels) cell = IsAmong level cell

-- levels lead from a cell to another, which no path with fewer steps reaches
pub record LeadOut (pairs : List Pair) (from to : Position) (levels : List (List Corners)) : Type 0 where
  pub lead : LeadFrom pairs from levels
  pub last : IsInLast levels to
  pub least : (cells : List Position) → IsPath (Step pairs) from cells to → length levels ≤ length cells + 1
