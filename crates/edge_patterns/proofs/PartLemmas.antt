-- The pairs of a part of an edge.
use Rattle.std.proofs.Common.{◌≡◌, ℕ, ◌+◌, ◌-◌, ◌≤◌, ◌<◌, arith, refl, sym, ◌∙◌, ap}
use Rattle.std.specs.Prelude.{Option, Some, None, ◌↔◌, ◌==◌, Bool, true, false}
use Rattle.std.proofs.lemmas.Bool.Decides.{nat_tests}
use Rattle.sheet_refs.specs.Cells.{Position, Corners, IsIn}
use Rattle.edge_patterns.specs.Axes.{along, IsLine, axis_of, count_along, cell_along}
use Rattle.edge_patterns.specs.Edges.{EdgeValue, IsEdge, IsPair, run_length, run_cell, range_at, first_along}
use Rattle.edge_patterns.specs.Edges.{last_along, range_along, part_of, steps_if, head_moves, tail_moves}
use Rattle.edge_patterns.specs.Joins.{IsPart, StandsBefore, IsPartOrNone}
use Rattle.edge_patterns.specs.Indices.{StandsBetween}
use Rattle.edge_patterns.proofs.Crossings.{along_of, lies}
use Rattle.edge_patterns.proofs.QueryLemmas.{Cuts, cuts}
use Rattle.edge_patterns.proofs.AxisLemmas.{to_along, from_along}

-- each cell of a run has one number
pub one_index : (edge : EdgeValue) (a b : ℕ) → run_cell edge a ≡ run_cell edge b → a ≡ b
one_index edge a b same =
    let axis = axis_of edge.dep in
    let e : along axis edge.dep.head + a ≡ along axis edge.dep.head + b = sym (along_of axis _ _) ∙ ap (along axis) same ∙ along_of axis _ _ in
    omega (arith, e)

-- steps add up
steps_on : (moves : Bool) (first from index : ℕ) → first + steps_if moves from + steps_if moves index ≡ first + steps_if moves (from + index)
steps_on true first from index = omega arith
steps_on false first from index = omega arith

steps_left : (moves : Bool) (last count from index to : ℕ) → from + index ≤ to → to < count
    → last - steps_if moves (count - 1 - to) - steps_if moves (to + 1 - from - 1 - index) ≡ last - steps_if moves
    (count - 1 - (from + index))
steps_left true last count from index to order within = omega arith
steps_left false last count from index to order within = omega arith

pub no_steps : (moves : Bool) (first : ℕ) → first + steps_if moves 0 ≡ first
no_steps true first = omega arith
no_steps false first = omega arith

module _ (edge : EdgeValue) (is : IsEdge edge) (from to : ℕ) (order : from ≤ to) (within : to < run_length edge) where
  pub run_cut : Cuts (axis_of edge.dep) edge.dep (along (axis_of edge.dep) edge.dep.head + from)
      (along (axis_of edge.dep) edge.dep.head + to) (part_of edge from to).dep
  run_cut = cuts (axis_of edge.dep) edge.dep _ _

  pub prec_cut : Cuts (axis_of edge.dep) edge.prec (first_along (axis_of edge.dep) edge from)
      (last_along (axis_of edge.dep) edge to) (part_of edge from to).prec
  prec_cut = cuts (axis_of edge.dep) edge.prec _ _

  pub part_line : IsLine (axis_of edge.dep) (part_of edge from to).dep
  part_line = run_cut.left ∙ is.line ∙ sym run_cut.right

  pub part_count : count_along (axis_of edge.dep) (part_of edge from to).dep ≡ to + 1 - from
  part_count = rw (run_cut.head, run_cut.tail) (omega (arith, order))

  part_cell : (index : ℕ) → cell_along (axis_of edge.dep) (part_of edge from to).dep index ≡ run_cell edge (from + index)
  part_cell index =
      let same : along (axis_of edge.dep) edge.dep.head + from + index ≡ along (axis_of edge.dep) edge.dep.head + (from + index) = omega arith in
      rw (run_cut.head, run_cut.left, same) refl

  -- the ends of a part's range are those of the edge's
  part_first : (index : ℕ) → from + index ≤ to
      → first_along (axis_of edge.dep) (part_of edge from to) index ≡ first_along (axis_of edge.dep) edge (from + index)
  part_first index inside = by_test (from == to) refl
    where
      by_test : (test : Bool) → (from == to) ≡ test
          → first_along (axis_of edge.dep) (part_of edge from to) index ≡ first_along (axis_of edge.dep) edge
          (from + index)
      by_test true same =
          let one : from ≡ to = grind (arith, nat_tests) in
          let none : from + index ≡ from = omega (arith, one, inside) in
          rw (same, prec_cut.head, none) (omega arith)
      by_test false differs = rw (differs, prec_cut.head) (steps_on (head_moves edge.pattern) (along (axis_of edge.dep) edge.prec.head) from index)

  part_last : (index : ℕ) → from + index ≤ to → last_along (axis_of edge.dep) (part_of edge from to) index ≡ last_along (axis_of edge.dep) edge (from + index)
  part_last index inside = by_test (from == to) refl
    where
      by_test : (test : Bool) → (from == to) ≡ test
          → last_along (axis_of edge.dep) (part_of edge from to) index ≡ last_along (axis_of edge.dep) edge
          (from + index)
      by_test true same =
          let one : from ≡ to = grind (arith, nat_tests) in
          let at : from + index ≡ to = omega (arith, one, inside) in
          rw (same, prec_cut.tail, at) (omega arith)
      by_test false differs =
          rw (
            differs,
            prec_cut.tail,
            part_count,
          ) (steps_left (tail_moves edge.pattern) (along (axis_of edge.dep) edge.prec.tail) (run_length edge)
          from index to inside within)

  part_range : (index : ℕ) → from + index ≤ to → range_along (axis_of edge.dep) (part_of edge from to) index ≡ range_at edge (from + index)
  part_range index inside =
      rw (part_first index inside, part_last index inside, prec_cut.left, prec_cut.right) refl

  -- a part has the pairs of the edge between its ends
  pub part_pairs : IsEdge (part_of edge from to) → (range : Corners) (cell : Position)
      → IsPair (part_of edge from to) range cell ↔ (IsPair edge range cell × StandsBetween edge from (to + 1) cell)
  part_pairs part_is range cell = (
    λ pair.
        let at = to_along (part_of edge from to) part_is (axis_of edge.dep) part_line range cell pair in
        let below = at.within in
        let index = at.index in
        let inside : from + index ≤ to = omega (arith, below, part_count) in
        let cell_is = at.cell_is ∙ part_cell index in (
          record { index = from + index; within = omega (arith, inside, within); cell_is = cell_is; range_is = at.range_is ∙ part_range index inside },
          record { index = from + index; begins = omega arith; ends = omega (arith, inside); cell_is = cell_is },
        ),
    λ both.
        let stands = both.1 in
        let pair = both.0 in
        let begins = stands.begins in
        let ends = stands.ends in
        let same : pair.index ≡ stands.index = one_index edge pair.index stands.index (sym pair.cell_is ∙ stands.cell_is) in
        let at : from + (pair.index - from) ≡ pair.index = omega (arith, same, begins) in
        let inside : from + (pair.index - from) ≤ to = omega (arith, at, same, ends) in
        from_along (part_of edge from to) part_is (axis_of edge.dep) part_line range cell (record {
          index = pair.index - from;
          within = rw part_count (omega (arith, same, begins, ends));
          cell_is = rw (part_cell (pair.index - from), at) pair.cell_is;
          range_is = rw (part_range (pair.index - from) inside, at) pair.range_is;
        }),
  )

  pub part_is_part : IsEdge (part_of edge from to) → IsPart edge (StandsBetween edge from (to + 1)) (part_of edge from to)
  part_is_part part_is = record { is_edge = part_is; pairs = part_pairs part_is }

-- what is kept can be said in another way
pub keeps_where : (edge : EdgeValue) (Kept Said : Position → Type 0)
    → ((range : Corners) (cell : Position) → IsPair edge range cell → Kept cell ↔ Said cell)
    → (result : Option EdgeValue) → IsPartOrNone result edge Kept → IsPartOrNone result edge Said
keeps_where edge Kept Said same None none = λ range cell pair said. none range cell pair ((same range cell pair).1 said)
keeps_where edge Kept Said same (Some part) is = record {
  is_edge = is.is_edge;
  pairs = λ range cell. (
    λ pair. let both = (is.pairs range cell).0 pair in (both.0, (same range cell both.0).0 both.1),
    λ both. (is.pairs range cell).1 (both.0, (same range cell both.0).1 both.1),
  );
}

-- the number of a cell that lies in the run
pub index_in_run : (edge : EdgeValue) → IsEdge edge → (cell : Position) → IsIn cell edge.dep
    → (along (axis_of edge.dep) cell ≡ along (axis_of edge.dep) edge.dep.head + (along (axis_of edge.dep) cell - along
    (axis_of edge.dep) edge.dep.head))
    × (along (axis_of edge.dep) cell - along (axis_of edge.dep) edge.dep.head < run_length edge)
index_in_run edge is cell inside =
    let at = lies (axis_of edge.dep) cell edge.dep inside in
    let from = at.from in
    let to = at.to in
    (omega (arith, from), omega (arith, from, to))

module _ (edge : EdgeValue) (cell : Position) (index : ℕ) (coordinate : along (axis_of edge.dep) cell ≡ along (axis_of edge.dep) edge.dep.head + index) where
  -- the cells before it and those after it are those with smaller and greater numbers
  pub before_is : (range : Corners) (other : Position) → IsPair edge range other → StandsBetween edge 0 index other ↔ StandsBefore edge other cell
  before_is range other pair =
      let axis = axis_of edge.dep in
      let at : along axis other ≡ along axis edge.dep.head + pair.index = ap (along axis) pair.cell_is ∙ along_of axis _ _ in (
        λ stands.
            let ends = stands.ends in
            let same = one_index edge pair.index stands.index (sym pair.cell_is ∙ stands.cell_is) in
            omega (arith, at, coordinate, same, ends),
        λ less. record { index = pair.index; begins = omega arith; ends = omega (arith, at, coordinate, less); cell_is = pair.cell_is },
      )

  pub after_is : (range : Corners) (other : Position) → IsPair edge range other
      → StandsBetween edge (index + 1) (run_length edge) other ↔ StandsBefore edge cell other
  after_is range other pair =
      let axis = axis_of edge.dep in
      let at : along axis other ≡ along axis edge.dep.head + pair.index = ap (along axis) pair.cell_is ∙ along_of axis _ _ in (
        λ stands.
            let begins = stands.begins in
            let same = one_index edge pair.index stands.index (sym pair.cell_is ∙ stands.cell_is) in
            omega (arith, at, coordinate, same, begins),
        λ less. record { index = pair.index; begins = omega (arith, at, coordinate, less); ends = pair.within; cell_is = pair.cell_is },
      )
