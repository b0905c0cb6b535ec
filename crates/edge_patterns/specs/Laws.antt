-- What is true of all edges.
use Rattle.std.specs.Prelude.{◌≡◌, ◌≢◌, ◌+◌, ◌⊎◌, ◌↔◌}
use Rattle.sheet_refs.specs.Cells.{Position, Corners, IsIn, IsOrdered}
use Rattle.sheet_refs.specs.Rectangles.{Overlap}
use Rattle.edge_patterns.specs.declared.axis.Axis.{Axis}
use Rattle.edge_patterns.specs.declared.edge.Pattern.TheVariants.{Single, Chain}
use Rattle.edge_patterns.specs.Axes.{along, across, axis_of}
use Rattle.edge_patterns.specs.Edges.{EdgeValue, IsEdge, IsPair, single_edge}
use Rattle.edge_patterns.specs.Joins.{AreNeighbours, HasBothPairs, CanBeJoined, PairsAreOf}
use Rattle.edge_patterns.specs.Queries.{IsReferred}

-- a cell has one range
abbrev pub CellsHaveOneRange : Type 0
CellsHaveOneRange = (edge : EdgeValue) (range other : Corners) (cell : Position) → IsEdge edge → IsPair edge range cell → IsPair edge other cell → range ≡ other

-- the cells of the run are those that have a range
abbrev pub RunsHaveRanges : Type 0
RunsHaveRanges = (edge : EdgeValue) (cell : Position) → IsEdge edge → IsIn cell edge.dep ↔ ((range : Corners) × IsPair edge range cell)

-- an edge of one cell has the one pair of this cell and its range
abbrev pub SinglesHaveOnePair : Type 0
SinglesHaveOnePair =
    (cell at : Position) (range other : Corners) → IsPair (single_edge cell range) other at ↔ ((other ≡ range) × (at ≡ cell))

-- each range has its head not past its tail
abbrev pub RangesAreOrdered : Type 0
RangesAreOrdered =
    (edge : EdgeValue) (range : Corners) (cell : Position) → IsEdge edge → IsPair edge range cell → IsOrdered range.head range.tail

-- the rectangle has exactly the cells of the ranges, so it is the smallest that has them all
abbrev pub RectanglesHaveTheRanges : Type 0
RectanglesHaveTheRanges =
    (edge : EdgeValue) (cell : Position) → IsEdge edge → IsIn cell edge.prec ↔ ((from : Position) × (range : Corners)
    × IsPair edge range from × IsIn cell range)

-- a query refers to some cell exactly where it shares one with the run
abbrev pub RunsAreAsked : Type 0
RunsAreAsked =
    (edge : EdgeValue) (query : Corners) → IsEdge edge → ((cell : Position) × IsReferred edge query cell) ↔ Overlap query edge.dep

-- the cell behind another in a line
pub record IsJustBefore (axis : Axis) (cell next : Position) : Type 0 where
  pub same_line : across axis next ≡ across axis cell
  pub one_on : along axis cell + 1 ≡ along axis next

-- each cell of the run refers to one cell alone, the one before it
abbrev pub AllReferBefore : EdgeValue → Type 0
AllReferBefore edge =
    (range : Corners) (cell : Position) → IsPair edge range cell → (range.head ≡ range.tail) × IsJustBefore (axis_of edge.dep) range.head cell

-- or the one behind it
abbrev pub AllReferBehind : EdgeValue → Type 0
AllReferBehind edge =
    (range : Corners) (cell : Position) → IsPair edge range cell → (range.head ≡ range.tail) × IsJustBefore (axis_of edge.dep) cell range.head

-- of the edges of several cells the chains are those whose cells all refer to the one before, or all to the one behind
abbrev pub ChainsReferToNeighbours : Type 0
ChainsReferToNeighbours =
    (edge : EdgeValue) → IsEdge edge → edge.pattern ≢ Single → (edge.pattern ≡ Chain) ↔ (AllReferBefore edge ⊎ AllReferBehind edge)

-- edges with the same pairs are the same
abbrev pub PairsTellTheEdge : Type 0
PairsTellTheEdge =
    (a b : EdgeValue) → IsEdge a → IsEdge b
    → ((range : Corners) (cell : Position) → IsPair a range cell ↔ IsPair b range cell) → a ≡ b

-- two edges are joined into one edge, in either order
abbrev pub UnionsAreOne : Type 0
UnionsAreOne = (a b joined other : EdgeValue) → HasBothPairs a b joined → HasBothPairs b a other → joined ≡ other

-- two edges with pairs of one edge can be joined where their runs are neighbours
abbrev pub PartsCanBeJoined : Type 0
PartsCanBeJoined =
    (edge a b : EdgeValue) → IsEdge edge → IsEdge a → IsEdge b → PairsAreOf a edge → PairsAreOf b edge → AreNeighbours a.dep b.dep → CanBeJoined a b
