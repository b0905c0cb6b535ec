-- What a compressed graph keeps: edges under keys, and two indexes of them.
use Rattle.std.specs.Prelude.{◌≡◌, ◌≢◌, ◌↔◌, ℕ, min, List, [], ◌∷◌, Option, Some, None, IsTrue, Contains, slice_index_or}
use Rattle.sheet_refs.specs.Cells.{Position, Corners}
use Rattle.sheet_refs.specs.Rectangles.{Overlap}
use Rattle.edge_patterns.specs.Edges.{EdgeValue, IsEdge, IsPair}
use Rattle.range_index.specs.Entries.{Entry}
use Rattle.std.specs.Prelude.{All, AllPairs}
use Rattle.taco_graph.specs.Filing.{Rectangles}
use Rattle.taco_graph.specs.Pairs.{AreApart}

-- the edges of a graph, or nothing, at each key from 0 on, and for how many more there is room
pub record StoreValue : Type 0 where
  pub slots : List (Option EdgeValue)
  pub room : ℕ

abbrev pub store_value : List (Option EdgeValue) → ℕ → ℕ → ℕ → StoreValue
store_value slots free runs rectangles = record { slots = slots; room = min free (min runs rectangles) }

-- the edge under a key
abbrev pub edge_at : List (Option EdgeValue) → ℕ → Option EdgeValue
edge_at slots key = slice_index_or slots key None

-- the edges, by rising key
abbrev pub edges_of : List (Option EdgeValue) → List EdgeValue
edges_of [] = []
edges_of (None ∷ slots) = edges_of slots
edges_of (Some edge ∷ slots) = edge ∷ edges_of slots

-- an edge that stands under a key
pub record IsKeptEdge (slots : List (Option EdgeValue)) (edge : EdgeValue) : Type 0 where
  pub key : ℕ
  pub here : edge_at slots key ≡ Some edge

-- what is kept are edges of the table of patterns
abbrev pub AreEdges : List (Option EdgeValue) → Type 0
AreEdges slots = (edge : EdgeValue) → IsKeptEdge slots edge → IsEdge edge

-- a pair of an edge that is kept
pub record IsKeptPair (slots : List (Option EdgeValue)) (range : Corners) (cell : Position) : Type 0 where
  pub edge : EdgeValue
  pub kept : IsKeptEdge slots edge
  pub pair : IsPair edge range cell

-- some edges are edges of the table of patterns, and no two of them share a pair
pub record AreEdgesApart (edges : List EdgeValue) : Type 0 where
  pub are_edges : All IsEdge edges
  pub apart : AllPairs AreApart edges

-- an edge has no pair in common with an edge that is kept
abbrev pub IsApart : List (Option EdgeValue) → EdgeValue → Type 0
IsApart slots edge = (range : Corners) (cell : Position) → IsPair edge range cell → ¬ IsKeptPair slots range cell

-- an entry is that of an edge under its key, with one of its ranges
pub record IsFiled (slots : List (Option EdgeValue)) (side : EdgeValue → Corners) (entry : Entry) : Type 0 where
  pub edge : EdgeValue
  pub here : edge_at slots entry.id ≡ Some edge
  pub range_is : entry.range ≡ side edge

-- an index has exactly the edges under their keys, each with one of its ranges
abbrev pub FilesAll : List (Option EdgeValue) → (EdgeValue → Corners) → List Entry → Type 0
FilesAll slots side entries = (entry : Entry) → Contains entries entry ↔ IsFiled slots side entry

-- what is kept are edges, no pair is in two of them, and each stands under its key in an index with its run, and where
-- rectangles are kept in another with its rectangle, and nothing else stands there
pub record AreStored (slots : List (Option EdgeValue)) (runs : List Entry) (rectangles : Rectangles) : Type 0 where
  pub edges : AreEdges slots
  pub apart : (key other : ℕ) (a b : EdgeValue) → key ≢ other → edge_at slots key ≡ Some a → edge_at slots other ≡ Some b → AreApart a b
  pub runs_filed : FilesAll slots (λ edge. edge.dep) runs
  pub rectangles_filed : IsTrue rectangles.kept → FilesAll slots (λ edge. edge.prec) rectangles.entries

-- different keys have different edges
abbrev pub EdgesDiffer : List (Option EdgeValue) → Type 0
EdgesDiffer slots = (key other : ℕ) (a b : EdgeValue) → key ≢ other → edge_at slots key ≡ Some a → edge_at slots other ≡ Some b → a ≢ b

-- a pair of the edge under a key
pub record IsPairAt (slots : List (Option EdgeValue)) (key : ℕ) (range : Corners) (cell : Position) : Type 0 where
  pub edge : EdgeValue
  pub here : edge_at slots key ≡ Some edge
  pub pair : IsPair edge range cell

-- an edge has no pair in common with an edge that is kept, but for the one under a key
abbrev pub IsApartBeside : List (Option EdgeValue) → ℕ → EdgeValue → Type 0
IsApartBeside slots key edge =
    (range : Corners) (cell : Position) → IsPair edge range cell → IsKeptPair slots range cell → IsPairAt slots key range cell

-- one key has something else, and every other key keeps what it had
pub record PutsEdge (old new : List (Option EdgeValue)) (key : ℕ) (slot : Option EdgeValue) : Type 0 where
  pub changed : edge_at new key ≡ slot
  pub others : (other : ℕ) → other ≢ key → edge_at new other ≡ edge_at old other

-- an edge has come under a key that was free
pub record Gains (old new : List (Option EdgeValue)) (edge : EdgeValue) : Type 0 where
  pub key : ℕ
  pub free : edge_at old key ≡ None
  pub puts : PutsEdge old new key (Some edge)

-- the keys of all edges whose runs overlap a query are in a list
abbrev pub NamesOverlapping : List (Option EdgeValue) → Corners → List ℕ → Type 0
NamesOverlapping slots query keys =
    (key : ℕ) (edge : EdgeValue) → edge_at slots key ≡ Some edge → Overlap edge.dep query → Contains keys key

-- the rectangle of the edge under a key overlaps a query
pub record IsMetAt (slots : List (Option EdgeValue)) (query : Corners) (key : ℕ) : Type 0 where
  pub edge : EdgeValue
  pub here : edge_at slots key ≡ Some edge
  pub overlap : Overlap edge.prec query

-- the keys of all such edges are in a list
abbrev pub NamesMet : List (Option EdgeValue) → Corners → List ℕ → Type 0
NamesMet slots query keys = (key : ℕ) → IsMetAt slots query key → Contains keys key

-- the edge that was under a key has no pair in common with those that are left
abbrev pub LeavesApart : List (Option EdgeValue) → List (Option EdgeValue) → ℕ → Type 0
LeavesApart old new key = (edge : EdgeValue) → edge_at old key ≡ Some edge → IsApart new edge
