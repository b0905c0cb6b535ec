-- Edges: runs of cells whose references share a pattern, after TACO (Tang et al., ICDE 2023).
use Rattle.std.specs.Prelude.{◌≡◌, ℕ, ◌+◌, ◌-◌, ◌<◌, ◌≤◌, ◌⊎◌, ◌==◌, Bool, true, false, if◌then◌else◌}
use Rattle.sheet_refs.specs.Cells.{Position, Corners, IsNamed, IsOrdered}
use Rattle.edge_patterns.specs.declared.axis.Axis.{Axis}
use Rattle.edge_patterns.specs.declared.edge.Pattern.{Pattern}
use Rattle.edge_patterns.specs.declared.edge.Pattern.TheVariants.{Single, Rr, Rf, Fr, Ff, Chain}
use Rattle.edge_patterns.specs.Axes.{along, across, slice_of, IsLine, axis_of, count_along, cell_along}

-- an edge by its parts: the run of its cells, the smallest rectangle with all ranges that they refer to, and its pattern
pub record EdgeValue : Type 0 where
  pub dep : Corners
  pub prec : Corners
  pub pattern : Pattern

-- whether the head, or the tail, of the range moves on by one from each cell of the run to the next
abbrev pub head_moves : Pattern → Bool
head_moves Single = false
head_moves Rr = true
head_moves Rf = true
head_moves Fr = false
head_moves Ff = false
head_moves Chain = true

abbrev pub tail_moves : Pattern → Bool
tail_moves Single = false
tail_moves Rr = true
tail_moves Rf = false
tail_moves Fr = true
tail_moves Ff = false
tail_moves Chain = true

-- neither end of the range moves
abbrev pub IsStill : EdgeValue → Type 0
IsStill edge = (head_moves edge.pattern ≡ false) × (tail_moves edge.pattern ≡ false)

-- so many steps where it moves, and none where it stays
abbrev pub steps_if : Bool → ℕ → ℕ
steps_if moves count = if moves then count else 0

-- the number of cells of the run
abbrev pub run_length : EdgeValue → ℕ
run_length edge = count_along (axis_of edge.dep) edge.dep

-- the cells of the run, numbered from 0
abbrev pub run_cell : EdgeValue → ℕ → Position
run_cell edge index = cell_along (axis_of edge.dep) edge.dep index

-- the cells of the run from one number to another
abbrev pub part_of_run : EdgeValue → ℕ → ℕ → Corners
part_of_run edge from to =
    let axis = axis_of edge.dep in
    let first = along axis edge.dep.head in
    slice_of axis edge.dep (first + from) (first + to)

-- along a direction, where the range of a cell begins and where it ends: a moving head sets out from the head of `prec`, and a moving
-- tail comes to the tail of `prec` at the last cell
abbrev pub first_along : Axis → EdgeValue → ℕ → ℕ
first_along axis edge index = along axis edge.prec.head + steps_if (head_moves edge.pattern) index

abbrev pub last_along : Axis → EdgeValue → ℕ → ℕ
last_along axis edge index = along axis edge.prec.tail - steps_if (tail_moves edge.pattern) (count_along axis edge.dep - 1 - index)

abbrev pub range_along : Axis → EdgeValue → ℕ → Corners
range_along axis edge index = slice_of axis edge.prec (first_along axis edge index) (last_along axis edge index)

-- the smallest rectangle with the ranges of the cells from one number to another
abbrev pub part_of_prec : EdgeValue → ℕ → ℕ → Corners
part_of_prec edge from to =
    let axis = axis_of edge.dep in
    slice_of axis edge.prec (first_along axis edge from) (last_along axis edge to)

-- the range to which the cell with this index refers
abbrev pub range_at : EdgeValue → ℕ → Corners
range_at edge index = range_along (axis_of edge.dep) edge index

-- the pairs that an edge stands for: each cell of its run with its range
pub record IsPair (edge : EdgeValue) (range : Corners) (cell : Position) : Type 0 where
  pub index : ℕ
  pub within : index < run_length edge
  pub cell_is : cell ≡ run_cell edge index
  pub range_is : range ≡ range_at edge index

-- one range is the other, moved on or back by one cell along a direction
pub record IsBeside (axis : Axis) (run range : Corners) : Type 0 where
  pub head : across axis range.head ≡ across axis run.head
  pub tail : across axis range.tail ≡ across axis run.tail
  pub moved : ((along axis range.head ≡ along axis run.head + 1) × (along axis range.tail ≡ along axis run.tail + 1))
      ⊎ ((along axis range.head + 1 ≡ along axis run.head) × (along axis range.tail + 1 ≡ along axis run.tail))

-- a run of at least two cells, over which a head or a tail that moves doesn't make a range whose head is past its tail
pub record HasRoomToMove (axis : Axis) (edge : EdgeValue) : Type 0 where
  pub several : 2 ≤ count_along axis edge.dep
  pub fits : along axis edge.prec.head + (count_along axis edge.dep - 1) ≤ along axis edge.prec.tail

-- what each pattern asks of run and rectangle
abbrev pub IsShapeOf : Axis → Pattern → EdgeValue → Type 0
IsShapeOf axis Single edge = count_along axis edge.dep ≡ 1
IsShapeOf axis Rr edge = HasRoomToMove axis edge × ¬ IsBeside axis edge.dep edge.prec
IsShapeOf axis Rf edge = HasRoomToMove axis edge
IsShapeOf axis Fr edge = HasRoomToMove axis edge
IsShapeOf axis Ff edge = 2 ≤ count_along axis edge.dep
IsShapeOf axis Chain edge = HasRoomToMove axis edge × IsBeside axis edge.dep edge.prec

-- a cell that has a name
abbrev pub HasName : Position → Type 0
HasName cell = IsNamed cell.row cell.col

-- a rectangle of cells that have names
pub record IsRange (range : Corners) : Type 0 where
  pub head : HasName range.head
  pub tail : HasName range.tail
  pub ordered : IsOrdered range.head range.tail

-- an edge: its run is one cell wide, and run and rectangle are as its pattern asks
pub record IsEdge (edge : EdgeValue) : Type 0 where
  pub dep : IsRange edge.dep
  pub prec : IsRange edge.prec
  pub line : IsLine (axis_of edge.dep) edge.dep
  pub shape : IsShapeOf (axis_of edge.dep) edge.pattern edge

-- along the run, the rectangle begins before the run does
abbrev pub BeginsBefore : EdgeValue → Type 0
BeginsBefore edge = let axis = axis_of edge.dep in along axis edge.prec.head < along axis edge.dep.head

-- an edge by its three parts
abbrev pub edge_of : Corners → Corners → Pattern → EdgeValue
edge_of dep prec pattern = record { dep = dep; prec = prec; pattern = pattern }

-- an edge of one cell and its range
abbrev pub single_edge : Position → Corners → EdgeValue
single_edge cell range = record { dep = record { head = cell; tail = cell }; prec = range; pattern = Single }

-- the edge of the cells from one number to another, which is a single one where they are one cell
abbrev pub part_of : EdgeValue → ℕ → ℕ → EdgeValue
part_of edge from to = record {
  dep = part_of_run edge from to;
  prec = part_of_prec edge from to;
  pattern = if from == to then Single else edge.pattern;
}
