-- What a query asks of each edge.
use Rattle.std.specs.Prelude.{◌≡◌, ◌≢◌, ◌⊎◌, ◌↔◌, ◌++◌, ◌+◌, ℕ, List, map, Option, Some, Contains, AllPairs, MatchOption}
use Rattle.graph_walk.specs.Graphs.{Adds}
use Rattle.sheet_refs.specs.Cells.{Position, Corners, IsIn}
use Rattle.edge_patterns.specs.Edges.{EdgeValue}
use Rattle.edge_patterns.specs.Queries.{IsDirect, IsSpreadTo, IsReferred, IsLedTo}
use Rattle.edge_patterns.specs.declared.edge.Pattern.TheVariants.{Chain}
use Rattle.taco_graph.specs.Stores.{edge_at}
use Rattle.taco_graph.specs.declared.answers.Question.{Question}
use Rattle.taco_graph.specs.declared.answers.Question.TheVariants.{Dependents, Precedents, Ahead, Behind}

-- of a chain the one set of cells is meant, and of every other edge the other
abbrev pub ByPattern : EdgeValue → (Position → Type 0) → (Position → Type 0) → Position → Type 0
ByPattern edge OfChain OfOthers cell = ((edge.pattern ≡ Chain) × OfChain cell) ⊎ ((edge.pattern ≢ Chain) × OfOthers cell)

-- what each edge answers ahead of a query, or behind it: all that `spread` gives, or all that `back` gives
abbrev pub ahead_of : Corners → EdgeValue → Position → Type 0
ahead_of query edge = ByPattern edge (IsSpreadTo edge query) (IsDirect edge query)

abbrev pub behind_of : Corners → EdgeValue → Position → Type 0
behind_of query edge = ByPattern edge (IsLedTo edge query) (IsReferred edge query)

-- the cells that an edge answers: the direct dependents or precedents of a query, or for a chain all that its own pairs lead to
abbrev pub IsMeant : Question → EdgeValue → Corners → Position → Type 0
IsMeant Dependents edge query = IsDirect edge query
IsMeant Precedents edge query = IsReferred edge query
IsMeant Ahead edge query = ahead_of query edge
IsMeant Behind edge query = behind_of query edge

-- a cell that the edge under a key answers
pub record IsMeantAt (slots : List (Option EdgeValue)) (question : Question) (query : Corners) (key : ℕ) (cell : Position) : Type 0 where
  pub edge : EdgeValue
  pub here : edge_at slots key ≡ Some edge
  pub meant : IsMeant question edge query cell

-- a cell that some edge answers
abbrev pub IsAnswered : List (Option EdgeValue) → Question → Corners → Position → Type 0
IsAnswered slots question query cell = (key : ℕ) × IsMeantAt slots question query key cell

-- the keys of all edges that have an answer are in a list
abbrev pub NamesAnswering : List (Option EdgeValue) → Question → Corners → List ℕ → Type 0
NamesAnswering slots question query keys =
    (key : ℕ) (cell : Position) → IsMeantAt slots question query key cell → Contains keys key

-- an edge with a range
pub record EdgeAnswer : Type 0 where
  pub edge : EdgeValue
  pub range : Corners

abbrev pub edge_answer : EdgeValue → Corners → EdgeAnswer
edge_answer edge range = record { edge = edge; range = range }

abbrev pub answer_ranges : List EdgeAnswer → List Corners
answer_ranges answers = map (λ answer. answer.range) answers

-- no edge stands twice, so that each has one range
abbrev pub HaveOneAnswer : List EdgeAnswer → Type 0
HaveOneAnswer answers = AllPairs (λ a b. a.edge ≢ b.edge) answers

-- the edge is one of some edges, and the range has exactly the cells that are meant of it
pub record IsAnswerOf (edges : List EdgeValue) (meant : EdgeValue → Position → Type 0) (answer : EdgeAnswer) : Type 0 where
  pub listed : Contains edges answer.edge
  pub exact : (cell : Position) → IsIn cell answer.range ↔ meant answer.edge cell

-- an edge is there, with a range
pub record HasAnswer (answers : List EdgeAnswer) (edge : EdgeValue) : Type 0 where
  pub range : Corners
  pub listed : Contains answers (edge_answer edge range)

-- at most one range was added for each edge, with exactly its cells: what was added are the ranges of edges of which none stands
-- twice, and each edge of which any cell is meant is there
pub record AddsOneEach (edges : List EdgeValue) (meant : EdgeValue → Position → Type 0) (old new : List Corners) : Type 0 where
  pub answers : List EdgeAnswer
  pub whole : new ≡ old ++ answer_ranges answers
  pub once : HaveOneAnswer answers
  pub exact : (answer : EdgeAnswer) → Contains answers answer → IsAnswerOf edges meant answer
  pub all : (edge : EdgeValue) (cell : Position) → Contains edges edge → meant edge cell → HasAnswer answers edge

-- the edge stands under a key, and the range has exactly the cells that it answers
pub record IsAnswerAt (slots : List (Option EdgeValue)) (question : Question) (query : Corners) (key : ℕ) (answer : EdgeAnswer) : Type 0 where
  pub here : edge_at slots key ≡ Some answer.edge
  pub exact : (cell : Position) → IsIn cell answer.range ↔ IsMeant question answer.edge query cell

-- there is a range, which the edge under a key answers, or no cell is meant of what stands there
abbrev pub AnswersAt : List (Option EdgeValue) → Question → Corners → ℕ → Option Corners → Type 0
AnswersAt slots question query key result =
    MatchOption result ((cell : Position) → ¬ IsMeantAt slots question query key cell)
    (λ range. (edge : EdgeValue) × IsAnswerAt slots question query key (edge_answer edge range))

-- the ranges of edges of which none stands twice were added: those of the edges under some keys that have an answer
pub record AddsAnswersOf (slots : List (Option EdgeValue)) (question : Question) (query : Corners) (keys : List ℕ) (old new : List Corners) : Type 0 where
  pub answers : List EdgeAnswer
  pub whole : new ≡ old ++ answer_ranges answers
  pub once : HaveOneAnswer answers
  pub exact : (answer : EdgeAnswer) → Contains answers answer → (key : ℕ) × Contains keys key × IsAnswerAt slots question query key answer
  pub all : (key : ℕ) (edge : EdgeValue) (cell : Position) → Contains keys key → edge_at slots key ≡ Some edge
      → IsMeant question edge query cell → HasAnswer answers edge

-- ranges were added whose cells are exactly those that some edge answers
abbrev pub AddsAnswers : List (Option EdgeValue) → Question → Corners → List Corners → List Corners → Type 0
AddsAnswers slots question query old new =
    Adds old new (IsAnswered slots question query) (IsAnswered slots question query)

-- a cell stands to another one as the third stands to the second
pub record IsMovedTo (cell from to moved : Position) : Type 0 where
  pub rows : moved.row + from.row ≡ cell.row + to.row
  pub cols : moved.col + from.col ≡ cell.col + to.col
