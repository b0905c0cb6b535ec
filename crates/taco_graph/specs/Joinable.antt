-- Which edges can be joined with one another.
use Rattle.std.specs.Prelude.{◌≡◌, ◌≢◌, ◌⊎◌, ℕ, ◌≤◌, List, [], ◌∷◌, Option, Some, AllPairs}
use Rattle.sheet_refs.specs.Cells.{Position, Corners}
use Rattle.edge_patterns.specs.declared.axis.Axis.{Axis}
use Rattle.edge_patterns.specs.Edges.{EdgeValue, IsEdge, IsPair}
use Rattle.edge_patterns.specs.Joins.{Follows, IsJoin, CanBeJoined}
use Rattle.graph_walk.specs.Graphs.{SamePairs}
use Rattle.taco_graph.specs.Pairs.{pairs_of}
use Rattle.taco_graph.specs.Stores.{edge_at}
use Rattle.taco_graph.specs.Changes.{LacksCell, EachHasAtMost}

-- no two edges of a list can be joined
abbrev pub NoneJoins : List EdgeValue → Type 0
NoneJoins edges = AllPairs (λ a b. ¬ CanBeJoined a b) edges

-- edges whose pairs are those of one edge are just that one
abbrev pub AreJustOne : List EdgeValue → Type 0
AreJustOne edges = (edge : EdgeValue) → IsEdge edge → SamePairs (pairs_of (edge ∷ [])) (pairs_of edges) → edges ≡ edge ∷ []

-- no two edges that are kept can be joined
abbrev pub KeptAreJoined : List (Option EdgeValue) → Type 0
KeptAreJoined slots =
    (key other : ℕ) (a b : EdgeValue) → key ≢ other → edge_at slots key ≡ Some a → edge_at slots other ≡ Some b → ¬ CanBeJoined a b

-- and each cell has so many pairs at most, and there is room for what has been promised
pub record AreCompressed (slots : List (Option EdgeValue)) (most free promised : ℕ) : Type 0 where
  pub few : EachHasAtMost slots most
  pub joined : KeptAreJoined slots
  pub room : promised ≤ free

-- no two that lack the cell can be joined, while it is taken out
abbrev pub OthersAreJoined : List (Option EdgeValue) → Position → Type 0
OthersAreJoined slots cell =
    (key other : ℕ) (a b : EdgeValue) → key ≢ other → edge_at slots key ≡ Some a → edge_at slots other ≡ Some b → LacksCell a cell → LacksCell b cell
    → ¬ CanBeJoined a b

-- no edge that is kept under this key and lacks the cell can be joined with an edge
abbrev pub CantJoinAt : List (Option EdgeValue) → ℕ → EdgeValue → Position → Type 0
CantJoinAt slots key edge cell = (other : EdgeValue) → edge_at slots key ≡ Some other → LacksCell other cell → ¬ CanBeJoined edge other

-- nor any under whatever key
abbrev pub CantJoinAny : List (Option EdgeValue) → EdgeValue → Position → Type 0
CantJoinAny slots edge cell = (key : ℕ) → CantJoinAt slots key edge cell

-- an edge stands beyond one of two that are joined: where the first of the two hasn't grown
abbrev pub StandsBeyond : EdgeValue → EdgeValue → EdgeValue → Type 0
StandsBeyond edge other third =
    (axis : Axis) × ((Follows axis other.dep edge.dep × Follows axis edge.dep third.dep) ⊎ (Follows axis edge.dep other.dep × Follows axis third.dep edge.dep))

-- what an edge has grown into with another can't be joined with an edge that lacks the cell and stands beyond
abbrev pub CantJoinBeyond : List (Option EdgeValue) → EdgeValue → EdgeValue → Position → Type 0
CantJoinBeyond slots edge grown cell =
    (key : ℕ) (other third : EdgeValue) → IsEdge other → IsJoin edge other grown → edge_at slots key ≡ Some third
    → LacksCell third cell → StandsBeyond edge other third
    → ¬ CanBeJoined grown third

-- an edge has come, alone or joined with others; what it has become stands under one key, what stands under another key
-- stood there before, and none of these that lacks the cell can be joined with it
pub record AddsJoined (old new : List (Option EdgeValue)) (edge : EdgeValue) (cell : Position) : Type 0 where
  pub key : ℕ
  pub became : EdgeValue
  pub here : edge_at new key ≡ Some became
  pub has : (range : Corners) (at : Position) → IsPair edge range at → IsPair became range at
  pub others : (other : ℕ) (b : EdgeValue) → other ≢ key → edge_at new other ≡ Some b → edge_at old other ≡ Some b
  pub whole : (other : ℕ) → other ≢ key → CantJoinAt new other became cell
