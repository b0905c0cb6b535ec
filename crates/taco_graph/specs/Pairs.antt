-- The pairs of edges, as lists.
use Rattle.std.specs.Prelude.{◌≢◌, ℕ, ◌≤◌, List, [], ◌∷◌, ◌++◌, map, length, All, AllPairs}
use Rattle.std.specs.List.{range_with_len}
use Rattle.sheet_refs.specs.Cells.{Position, Corners}
use Rattle.graph_walk.specs.Graphs.{Pair, SamePairs}
use Rattle.edge_patterns.specs.Edges.{EdgeValue, IsEdge, IsPair, run_length, run_cell, range_at}

-- the pair of the cell with this index
abbrev pub pair_at : EdgeValue → ℕ → Pair
pair_at edge index = record { range = range_at edge index; cell = run_cell edge index }

-- the pairs of an edge, cell by cell
abbrev pub pairs_of_edge : EdgeValue → List Pair
pairs_of_edge edge = map (pair_at edge) (range_with_len 0 (run_length edge))

-- the pairs of some edges
abbrev pub pairs_of : List EdgeValue → List Pair
pairs_of [] = []
pairs_of (edge ∷ edges) = pairs_of_edge edge ++ pairs_of edges

-- two edges have no pair in common
abbrev pub AreApart : EdgeValue → EdgeValue → Type 0
AreApart a b = (range : Corners) (cell : Position) → IsPair a range cell → ¬ IsPair b range cell

-- edges stand for some pairs: they are edges of the table of patterns, all their pairs are exactly these, and no pair is in two of
-- them, so that of their pairs each is listed once
pub record StandFor (edges : List EdgeValue) (pairs : List Pair) : Type 0 where
  pub are_edges : All IsEdge edges
  pub same : SamePairs pairs (pairs_of edges)
  pub once : AllPairs (λ a b. a ≢ b) (pairs_of edges)

-- edges have no more pairs than 255 for each cell that has a name
abbrev pub HaveFewPairs : List EdgeValue → Type 0
HaveFewPairs edges = length (pairs_of edges) ≤ 4380866641920
