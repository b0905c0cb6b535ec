-- What is true of chains, as lists of cells.
use Rattle.std.specs.Prelude.{◌≡◌, ◌≤◌, ◌↔◌, List, [], ◌∷◌, length}
use Rattle.sheet_refs.specs.Cells.{Position}
use Rattle.graph_walk.specs.Graphs.{Pair, Step}
use Rattle.graph_walk.specs.Paths.{IsPath}
use Rattle.dep_path.specs.Chains.{IsChain, IsShortest}

-- the last of some cells behind a first one
abbrev pub last_of : Position → List Position → Position
last_of first [] = first
last_of first (next ∷ cells) = last_of next cells

-- a list is a chain where steps lead along it to its last cell
abbrev pub ChainsAreTheirEnds : Type 0
ChainsAreTheirEnds = (pairs : List Pair) (first : Position) (cells : List Position) → IsChain pairs (first ∷ cells)
    ↔ IsPath (Step pairs) first cells (last_of first cells)

-- a shortest chain is one, with these ends
abbrev pub ShortestAreChains : Type 0
ShortestAreChains =
    (pairs : List Pair) (from to : Position) (chain : List Position) → IsShortest pairs from to chain
    → IsChain pairs chain × ((cells : List Position) × (chain ≡ from ∷ cells) × (last_of from cells ≡ to))

-- and no chain with these ends has fewer cells
abbrev pub ShortestAreOfOneLength : Type 0
ShortestAreOfOneLength =
    (pairs : List Pair) (from to : Position) (chain : List Position) → IsShortest pairs from to chain
    → (cells : List Position) → IsChain pairs (from ∷ cells) → last_of from cells ≡ to → length chain ≤ length (from ∷ cells)

-- from a cell to itself it is that cell
abbrev pub EqualCellsAreOne : Type 0
EqualCellsAreOne = (pairs : List Pair) (cell : Position) (chain : List Position) → IsShortest pairs cell cell chain → chain ≡ cell ∷ []
