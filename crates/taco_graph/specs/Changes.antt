-- How a change moves edges and their pairs.
use Rattle.std.specs.Prelude.{◌≡◌, ◌≢◌, ◌↔◌, ◌⊎◌, ℕ, ◌+◌, ◌*◌, ◌≤◌, List, Option, Some, MatchOption, length, Contains}
use Rattle.sheet_refs.specs.Cells.{Position, Corners}
use Rattle.edge_patterns.specs.Edges.{EdgeValue, IsEdge, IsPair}
use Rattle.edge_patterns.specs.Joins.{IsJoin, HasPair}
use Rattle.taco_graph.specs.Stores.{edge_at, IsKeptPair}

-- an edge has no pair of the cell
abbrev pub LacksCell : EdgeValue → Position → Type 0
LacksCell edge cell = (range : Corners) → ¬ IsPair edge range cell

-- it has one
abbrev pub HoldsCell : EdgeValue → Position → Type 0
HoldsCell edge cell = (range : Corners) × IsPair edge range cell

-- no edge that is kept has a pair of the cell
abbrev pub LackCell : List (Option EdgeValue) → Position → Type 0
LackCell slots cell = (range : Corners) → ¬ IsKeptPair slots range cell

-- the pairs of an edge have come, and no other pair has changed
abbrev pub GainsPairs : List (Option EdgeValue) → List (Option EdgeValue) → EdgeValue → Type 0
GainsPairs old new edge =
    (range : Corners) (cell : Position) → IsKeptPair new range cell ↔ (IsPair edge range cell ⊎ IsKeptPair old range cell)

-- an edge is joined with the one that is kept under this key, which lacks the cell
pub record IsJoinedAt (slots : List (Option EdgeValue)) (key : ℕ) (edge : EdgeValue) (cell : Position) (joined : EdgeValue) : Type 0 where
  pub other : EdgeValue
  pub here : edge_at slots key ≡ Some other
  pub is_edge : IsEdge other
  pub lacks : LacksCell other cell
  pub join : IsJoin edge other joined

-- what is found is a key and what an edge becomes with the one under it; where nothing is found, this is so
abbrev pub FindsJoined : List (Option EdgeValue) → EdgeValue → Position → Option (ℕ × EdgeValue) → Type 0 → Type 0
FindsJoined slots edge cell found Nothing = MatchOption found Nothing (λ (f : ℕ × EdgeValue). IsJoinedAt slots f.0 edge cell f.1)

-- the same with the key's place in a list first
abbrev pub FindsPlace : List (Option EdgeValue) → EdgeValue → Position → Option (ℕ × ℕ × EdgeValue) → Type 0 → Type 0
FindsPlace slots edge cell found Nothing = MatchOption found Nothing (λ (f : ℕ × ℕ × EdgeValue). IsJoinedAt slots f.1 edge cell f.2)

-- each edge that has a pair of the cell was there before
abbrev pub HoldNoMore : List (Option EdgeValue) → List (Option EdgeValue) → Position → Type 0
HoldNoMore old new cell =
    (key : ℕ) (edge : EdgeValue) (range : Corners) → edge_at new key ≡ Some edge → IsPair edge range cell → edge_at old key ≡ Some edge

-- and stands under another key than this one
abbrev pub HoldElsewhere : List (Option EdgeValue) → List (Option EdgeValue) → Position → ℕ → Type 0
HoldElsewhere old new cell taken =
    (key : ℕ) (edge : EdgeValue) (range : Corners) → edge_at new key ≡ Some edge → IsPair edge range cell → (edge_at old key ≡ Some edge) × (key ≢ taken)

-- the pairs of all other cells are the same
abbrev pub KeepsOthers : List (Option EdgeValue) → List (Option EdgeValue) → Position → Type 0
KeepsOthers old new left_out =
    (range : Corners) (cell : Position) → cell ≢ left_out → IsKeptPair new range cell ↔ IsKeptPair old range cell

-- the keys of all edges that have a pair of the cell are among these
abbrev pub HoldersAreAmong : List (Option EdgeValue) → Position → List ℕ → Type 0
HoldersAreAmong slots cell keys =
    (key : ℕ) (edge : EdgeValue) (range : Corners) → edge_at slots key ≡ Some edge → IsPair edge range cell → Contains keys key

-- the cell has at most so many pairs: their ranges are all in a list that is no longer
pub record HasAtMost (slots : List (Option EdgeValue)) (cell : Position) (most : ℕ) : Type 0 where
  pub ranges : List Corners
  pub few : length ranges ≤ most
  pub listed : (range : Corners) → IsKeptPair slots range cell → Contains ranges range

-- and so has each cell
abbrev pub EachHasAtMost : List (Option EdgeValue) → ℕ → Type 0
EachHasAtMost slots most = (cell : Position) → HasAtMost slots cell most

-- besides this much there is room for the parts of each edge that has a pair of the cell
pub record HasRoomForParts (slots : List (Option EdgeValue)) (cell : Position) (beside room : ℕ) : Type 0 where
  pub most : ℕ
  pub few : HasAtMost slots cell most
  pub fits : beside + 2 * most ≤ room

-- and still is, in another state
abbrev pub KeepsRoomForParts : List (Option EdgeValue) → List (Option EdgeValue) → Position → ℕ → ℕ → Type 0
KeepsRoomForParts old new cell before after =
    (beside : ℕ) → HasRoomForParts old cell beside before → HasRoomForParts new cell beside after

-- the same of a part of an edge, which there may not be
abbrev pub IsPartApart : List (Option EdgeValue) → Option EdgeValue → Type 0
IsPartApart slots part = (range : Corners) (cell : Position) → HasPair part range cell → ¬ IsKeptPair slots range cell

abbrev pub GainsPartPairs : List (Option EdgeValue) → List (Option EdgeValue) → Option EdgeValue → Type 0
GainsPartPairs old new part =
    (range : Corners) (cell : Position) → IsKeptPair new range cell ↔ (HasPair part range cell ⊎ IsKeptPair old range cell)

abbrev pub PartLacksCell : Option EdgeValue → Position → Type 0
PartLacksCell part cell = (range : Corners) → ¬ HasPair part range cell
