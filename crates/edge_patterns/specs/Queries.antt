-- What an edge tells of its dependents and precedents.
use Rattle.std.specs.Prelude.{◌↔◌, MatchOption}
use Rattle.std.specs.declared.option.Option.{Option}
use Rattle.sheet_refs.specs.Cells.{Position, Corners, IsIn}
use Rattle.sheet_refs.specs.Rectangles.{Overlap}
use Rattle.edge_patterns.specs.Edges.{EdgeValue, IsPair}

-- the range has exactly the cells that are meant, and there is none exactly where none is meant
abbrev pub Covers : Option Corners → (Position → Type 0) → Type 0
Covers result Meant =
    MatchOption result ((cell : Position) → ¬ Meant cell) (λ range. (cell : Position) → IsIn cell range ↔ Meant cell)

-- the cell has a pair whose range overlaps the query
pub record IsDirect (edge : EdgeValue) (query : Corners) (cell : Position) : Type 0 where
  pub range : Corners
  pub pair : IsPair edge range cell
  pub overlaps : Overlap range query

-- the cell is reached from the query by one or more of the edge's own pairs
pub data IsSpreadTo (edge : EdgeValue) (query : Corners) : Position → Type 0 where
  at_once : (cell : Position) → IsDirect edge query cell → IsSpreadTo edge query cell
  onward : (from cell : Position) (range : Corners) → IsSpreadTo edge query from → IsPair edge range cell → IsIn from range → IsSpreadTo edge query cell

-- the cell is in the range of a cell that is in the query
pub record IsReferred (edge : EdgeValue) (query : Corners) (cell : Position) : Type 0 where
  pub from : Position
  pub range : Corners
  pub asked : IsIn from query
  pub pair : IsPair edge range from
  pub inside : IsIn cell range

-- the query leads to the cell by one or more of the edge's own pairs
pub data IsLedTo (edge : EdgeValue) (query : Corners) : Position → Type 0 where
  at_once : (cell : Position) → IsReferred edge query cell → IsLedTo edge query cell
  onward : (from cell : Position) (range : Corners) → IsLedTo edge query from → IsPair edge range from → IsIn cell range → IsLedTo edge query cell

-- there is an answer exactly where two ranges overlap
abbrev pub AnswersWhere : Option Corners → Corners → Corners → Type 0
AnswersWhere result a b = MatchOption result (¬ Overlap a b) (λ _. Overlap a b)
