-- What is true of what edges answer, and of edges that stand for pairs.
use Rattle.std.specs.Prelude.{◌≡◌, ◌≢◌, ◌↔◌, ◌⊎◌, ◌+◌, ◌≤◌, List, [], ◌∷◌, ◌++◌, length, Contains, AllPairs}
use Rattle.sheet_refs.specs.Cells.{Position, Corners, IsIn}
use Rattle.graph_walk.specs.Graphs.{Pair}
use Rattle.graph_walk.specs.Calls.{Call, After}
use Rattle.edge_patterns.specs.Edges.{EdgeValue}
use Rattle.taco_graph.specs.declared.answers.Question.{Question}
use Rattle.taco_graph.specs.Answers.{AddsOneEach, IsMeant}
use Rattle.taco_graph.specs.Order.{AreInOrder, IsListedBefore}
use Rattle.taco_graph.specs.Filled.{CanBeFilled, FillDown, one_cell, two_cells, two_calls}
use Rattle.taco_graph.specs.Joinable.{AreJustOne, NoneJoins}
use Rattle.taco_graph.specs.Pairs.{StandFor, pairs_of}

-- a list gains no more ranges than there are edges
abbrev pub AnswersAreFew : Type 0
AnswersAreFew =
    (edges : List EdgeValue) (question : Question) (query : Corners) (old new : List Corners)
    → AddsOneEach edges (λ edge. IsMeant question edge query) old new → length new ≤ length old + length edges

-- a list that has one range more, with exactly some cells
pub record GainsOne (old new : List Corners) (cells : Position → Type 0) : Type 0 where
  pub range : Corners
  pub whole : new ≡ old ++ range ∷ []
  pub exact : (cell : Position) → IsIn cell range ↔ cells cell

-- one edge of which a cell is meant gives one range, with exactly the cells that are meant
abbrev pub OneEdgeGivesOne : Type 0
OneEdgeGivesOne =
    (edge : EdgeValue) (question : Question) (query : Corners) (old new : List Corners) (cell : Position)
    → AddsOneEach (edge ∷ []) (λ e. IsMeant question e query) old new
    → IsMeant question edge query cell → GainsOne old new (IsMeant question edge query)

-- edges that stand for some pairs are no more than these: each has one of its own
abbrev pub EdgesAreFew : Type 0
EdgesAreFew = (edges : List EdgeValue) (pairs : List Pair) → StandFor edges pairs → length edges ≤ length pairs

-- no edge stands twice
abbrev pub AreDistinct : List EdgeValue → Type 0
AreDistinct edges = AllPairs (λ a b. a ≢ b) edges

-- nor do edges that stand for some pairs
abbrev pub StandingEdgesAreDistinct : Type 0
StandingEdgesAreDistinct = (edges : List EdgeValue) (pairs : List Pair) → StandFor edges pairs → AreDistinct edges

-- of two edges in order the later one is the same as the earlier one, or the earlier one is listed before it
abbrev pub OrderIsByParts : Type 0
OrderIsByParts = (edges : List EdgeValue) → AreInOrder edges → AllPairs (λ a b. (a ≡ b) ⊎ IsListedBefore a b) edges

-- two lists have the same edges
abbrev pub HaveSameEdges : List EdgeValue → List EdgeValue → Type 0
HaveSameEdges some others = (edge : EdgeValue) → Contains some edge ↔ Contains others edge

-- edges have one list in order
abbrev pub ListsInOrderAreOne : Type 0
ListsInOrderAreOne =
    (some others : List EdgeValue) → AreInOrder some → AreInOrder others → AreDistinct some → AreDistinct others → HaveSameEdges some others → some ≡ others

-- where edges that stand for their pairs, of which no two can be joined, have the pairs of one edge, there is just that one
abbrev pub OneEdgeStandsAlone : Type 0
OneEdgeStandsAlone = (edges : List EdgeValue) → StandFor edges (pairs_of edges) → NoneJoins edges → AreJustOne edges

-- two cells that get the ranges left of them, from below, are filled down
abbrev pub TwoCellsAreFilled : Type 0
TwoCellsAreFilled = CanBeFilled two_cells (one_cell 1 1) × FillDown two_calls two_cells (one_cell 1 1)

-- a column that is filled down, of whatever length and in whatever order of its cells, is one edge
abbrev pub FilledColumnsAreOneEdge : Type 0
FilledColumnsAreOneEdge =
    (calls : List Call) (edges : List EdgeValue) (run first : Corners) → CanBeFilled run first
    → FillDown calls run first → After [] calls (pairs_of edges) → AreJustOne edges
    → (edge : EdgeValue) × ((edges ≡ edge ∷ []) × (edge.dep ≡ run))
