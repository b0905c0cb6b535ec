-- Joining two edges, and taking a cell out of one.
use Rattle.std.specs.Prelude.{◌≡◌, ◌≢◌, ℕ, ◌+◌, ◌-◌, ◌<◌, ◌⊎◌, ◌↔◌, Bool, MatchOption, IsSomeAnd}
use Rattle.std.specs.declared.option.Option.{Option}
use Rattle.sheet_refs.specs.Cells.{Position, Corners}
use Rattle.edge_patterns.specs.declared.axis.Axis.{Axis}
use Rattle.edge_patterns.specs.declared.axis.Axis.TheVariants.{Down}
use Rattle.edge_patterns.specs.Axes.{along, across, IsLine, axis_of, count_along}
use Rattle.edge_patterns.specs.Edges.{EdgeValue, IsEdge, IsPair, run_length, range_at, range_along, steps_if}

-- the second run goes on where the first ends, in one line
pub record Follows (axis : Axis) (front rear : Corners) : Type 0 where
  pub front_line : IsLine axis front
  pub rear_line : IsLine axis rear
  pub same_line : across axis front.head ≡ across axis rear.head
  pub next : along axis front.tail + 1 ≡ along axis rear.head

-- two runs are neighbours in one line
abbrev pub AreNeighbours : Corners → Corners → Type 0
AreNeighbours a b = (axis : Axis) × (Follows axis a b ⊎ Follows axis b a)

-- an edge that has exactly the pairs of two others
pub record HasBothPairs (a b : EdgeValue) (joined : EdgeValue) : Type 0 where
  pub is_edge : IsEdge joined
  pub pairs : (range : Corners) (cell : Position) → IsPair joined range cell ↔ (IsPair a range cell ⊎ IsPair b range cell)

-- the edge into which two edges can be joined
pub record IsJoin (a b : EdgeValue) (joined : EdgeValue) : Type 0 where
  pub neighbours : AreNeighbours a.dep b.dep
  pub union : HasBothPairs a b joined

-- two edges can be joined: their runs are neighbours in one line, and one edge has exactly the pairs of both
abbrev pub CanBeJoined : EdgeValue → EdgeValue → Type 0
CanBeJoined a b = (joined : EdgeValue) × IsJoin a b joined

-- the pairs of an edge are pairs of another
abbrev pub PairsAreOf : EdgeValue → EdgeValue → Type 0
PairsAreOf part edge = (range : Corners) (cell : Position) → IsPair part range cell → IsPair edge range cell

-- an edge with this run whose first and last cells have these ranges
pub record HasEnds (axis : Axis) (dep first last : Corners) (edge : EdgeValue) : Type 0 where
  pub is_edge : IsEdge edge
  pub dep_is : edge.dep ≡ dep
  pub first_is : range_along axis edge 0 ≡ first
  pub last_is : range_along axis edge (count_along axis dep - 1) ≡ last

-- an edge has the last range of one edge and the first range of another where their runs meet
pub record HasInnerRanges (edge front rear : EdgeValue) : Type 0 where
  pub front_last : range_at edge (run_length front - 1) ≡ range_at front (run_length front - 1)
  pub rear_first : range_at edge (run_length front) ≡ range_at rear 0

-- two ranges lie between the same coordinates across a direction
pub record IsAsWide (axis : Axis) (a b : Corners) : Type 0 where
  pub left : across axis a.head ≡ across axis b.head
  pub right : across axis a.tail ≡ across axis b.tail

-- over so many cells a coordinate goes from one number to another, by one at each cell or not at all
abbrev pub Moves : ℕ → ℕ → ℕ → Bool → Type 0
Moves first last count moves = last ≡ first + steps_if moves count

-- down a column, from the first cell of a run to the last, an end of the range stays or goes on by as many rows
abbrev pub StaysOrMoves : Corners → ℕ → ℕ → Type 0
StaysOrMoves run first last = (last ≡ first) ⊎ (last ≡ first + (count_along Down run - 1))

-- and so do both ends, which stay in their columns
pub record GoesDown (run first last : Corners) : Type 0 where
  pub wide : IsAsWide Down first last
  pub head : StaysOrMoves run first.head.row last.head.row
  pub tail : StaysOrMoves run first.tail.row last.tail.row

-- the cell comes before another in a run
abbrev pub StandsBefore : EdgeValue → Position → Position → Type 0
StandsBefore edge cell other = along (axis_of edge.dep) cell < along (axis_of edge.dep) other

-- an edge that has exactly those pairs of another whose cells are kept
pub record IsPart (edge : EdgeValue) (Kept : Position → Type 0) (part : EdgeValue) : Type 0 where
  pub is_edge : IsEdge part
  pub pairs : (range : Corners) (cell : Position) → IsPair part range cell ↔ (IsPair edge range cell × Kept cell)

-- an edge with those pairs, or None exactly where there are none
abbrev pub IsPartOrNone : Option EdgeValue → EdgeValue → (Position → Type 0) → Type 0
IsPartOrNone result edge Kept =
    MatchOption result ((range : Corners) (cell : Position) → IsPair edge range cell → ¬ Kept cell) (IsPart edge Kept)

-- there is an edge, and it has the pair
abbrev pub HasPair : Option EdgeValue → Corners → Position → Type 0
HasPair part range cell = IsSomeAnd part (λ edge. IsPair edge range cell)

-- two parts have together exactly the pairs of an edge without those of one cell
abbrev pub LeaveOut : Option EdgeValue → Option EdgeValue → EdgeValue → Position → Type 0
LeaveOut before after edge left_out =
    (range : Corners) (cell : Position) → (HasPair before range cell ⊎ HasPair after range cell) ↔ (IsPair edge range cell × (cell ≢ left_out))
