-- Chains of references.
use Rattle.std.specs.Prelude.{◌≡◌, ◌≤◌, List, [], ◌∷◌, length}
use Rattle.sheet_refs.specs.Cells.{Position}
use Rattle.graph_walk.specs.Graphs.{Pair, Step}
use Rattle.graph_walk.specs.Paths.{IsPath}

-- each next cell depends directly on the one before; there is a first cell
abbrev pub IsChain : List Pair → List Position → Type 0
IsChain pairs [] = ⊥
IsChain pairs (cell ∷ []) = Unit {0}
IsChain pairs (cell ∷ next ∷ cells) = Step pairs cell next × IsChain pairs (next ∷ cells)

-- a list of cells from one to another, each step a direct dependence, and no such list has fewer cells
pub record IsShortest (pairs : List Pair) (from to : Position) (chain : List Position) : Type 0 where
  pub cells : List Position
  pub begins : chain ≡ from ∷ cells
  pub path : IsPath (Step pairs) from cells to
  pub least : (others : List Position) → IsPath (Step pairs) from others to → length cells ≤ length others
