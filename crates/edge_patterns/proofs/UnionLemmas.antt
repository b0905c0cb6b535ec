-- The edge with the pairs of two edges whose runs are neighbours.
use Rattle.std.proofs.Common.{◌≡◌, ℕ, ◌+◌, ◌-◌, ◌≤◌, ◌<◌, arith, refl, sym, ◌∙◌, ap}
use Rattle.std.specs.Prelude.{◌↔◌, Bool, true, false}
use Rattle.sheet_refs.specs.Cells.{Position, Corners, IsIn, IsOrdered}
use Rattle.edge_patterns.specs.declared.axis.Axis.{Axis}
use Rattle.edge_patterns.specs.declared.axis.Axis.TheVariants.{Down}
use Rattle.edge_patterns.specs.Axes.{along, across, position_at, axis_of, count_along}
use Rattle.edge_patterns.specs.Edges.{EdgeValue, IsEdge, IsShapeOf, IsPair, run_cell, range_at, range_along, steps_if, head_moves, tail_moves}
use Rattle.edge_patterns.proofs.Crossings.{lies, is_in, along_of, across_of, cell_again}
use Rattle.edge_patterns.proofs.EdgeLemmas.{spans}
use Rattle.edge_patterns.proofs.PartLemmas.{one_index, index_in_run}
use Rattle.edge_patterns.proofs.JoinLemmas.{same_range, tail_room}

-- the pairs of two edges are the same
abbrev pub AlikeInPairs : EdgeValue → EdgeValue → Type 0
AlikeInPairs a b = (range : Corners) (cell : Position) → IsPair a range cell ↔ IsPair b range cell

-- coordinates that move alike and agree at two indices agree between them
heads_agree : (m k : Bool) (first other offset count index : ℕ) → first + steps_if m offset ≡ other + steps_if k 0
    → first + steps_if m (offset + (count - 1)) ≡ other + steps_if k (count - 1) → index < count
    → first + steps_if m (offset + index) ≡ other + steps_if k index
heads_agree true true first other offset count index start end within = omega (arith, start, end, within)
heads_agree true false first other offset count index start end within = omega (arith, start, end, within)
heads_agree false true first other offset count index start end within = omega (arith, start, end, within)
heads_agree false false first other offset count index start end within = omega (arith, start, end, within)

tails_agree : (m k : Bool) (last other whole offset count index : ℕ) → offset + count ≤ whole
    → steps_if m (whole - 1) ≤ last → steps_if k (count - 1) ≤ other
    → last - steps_if m (whole - 1 - offset) ≡ other - steps_if k (count - 1 - 0)
    → last - steps_if m (whole - 1 - (offset + (count - 1))) ≡ other - steps_if k (count - 1 - (count - 1))
    → index < count → last - steps_if m (whole - 1 - (offset + index)) ≡ other - steps_if k (count - 1 - index)
tails_agree true true last other whole offset count index fits room other_room start end within = omega (arith, fits, room, other_room, start, end, within)
tails_agree true false last other whole offset count index fits room other_room start end within = omega (arith, fits, room, other_room, start, end, within)
tails_agree false true last other whole offset count index fits room other_room start end within = omega (arith, fits, room, other_room, start, end, within)
tails_agree false false last other whole offset count index fits room other_room start end within = omega (arith, fits, room, other_room, start, end, within)

-- and so do the ranges of two edges
pub agree : (axis : Axis) (edge part : EdgeValue) → IsShapeOf axis edge.pattern edge → IsShapeOf axis part.pattern part
    → (offset : ℕ) → offset + count_along axis part.dep ≤ count_along axis edge.dep
    → range_along axis edge offset ≡ range_along axis part 0
    → range_along axis edge (offset + (count_along axis part.dep - 1)) ≡ range_along axis part
    (count_along axis part.dep - 1) → (index : ℕ) → index < count_along axis part.dep
    → range_along axis edge (offset + index) ≡ range_along axis part index
agree axis edge part shape part_shape offset fits start end index within =
    let count = count_along axis part.dep in
    let head = λ (r : Corners). along axis r.head in
    let tail = λ (r : Corners). along axis r.tail in
    let first = sym (spans axis edge offset).head ∙ ap head start ∙ (spans axis part 0).head in
    let last = sym (spans axis edge (offset + (count - 1))).head ∙ ap head end ∙ (spans axis part (count - 1)).head in
    let first_tail = sym (spans axis edge offset).tail ∙ ap tail start ∙ (spans axis part 0).tail in
    let last_tail = sym (spans axis edge (offset + (count - 1))).tail ∙ ap tail end ∙ (spans axis part (count - 1)).tail in
    let at = spans axis edge (offset + index) in
    let there = spans axis part index in
    let left = sym (spans axis edge offset).left ∙ ap (λ (r : Corners). across axis r.head) start ∙ (spans axis part 0).left in
    let right = sym (spans axis edge offset).right ∙ ap (λ (r : Corners). across axis r.tail) start ∙ (spans axis part 0).right in
    same_range axis (range_along axis edge (offset + index)) (range_along axis part index)
    (at.head ∙ heads_agree (head_moves edge.pattern) (head_moves part.pattern) _ _ offset count index first last within ∙ sym there.head)
    (at.tail ∙ tails_agree (tail_moves edge.pattern) (tail_moves part.pattern) _ _ (count_along axis edge.dep) offset
    count index fits (tail_room axis edge.pattern edge shape) (tail_room axis part.pattern part part_shape)
    first_tail last_tail within ∙ sym there.tail)
    (at.left ∙ left ∙ sym there.left)
    (at.right ∙ right ∙ sym there.right)

-- rectangles with the same cells are the same
pub same_cells : (a b : Corners) → IsOrdered a.head a.tail → IsOrdered b.head b.tail → ((cell : Position) → IsIn cell a ↔ IsIn cell b) → a ≡ b
same_cells a b a_is b_is same =
    let a_head = (same a.head).0 (record { row_from = omega arith; row_to = a_is.rows; col_from = omega arith; col_to = a_is.cols }) in
    let a_tail = (same a.tail).0 (record { row_from = a_is.rows; row_to = omega arith; col_from = a_is.cols; col_to = omega arith }) in
    let b_head = (same b.head).1 (record { row_from = omega arith; row_to = b_is.rows; col_from = omega arith; col_to = b_is.cols }) in
    let b_tail = (same b.tail).1 (record { row_from = b_is.rows; row_to = omega arith; col_from = b_is.cols; col_to = omega arith }) in
    let top_a = a_head.row_from in
    let top_b = b_head.row_from in
    let bottom_a = a_tail.row_to in
    let bottom_b = b_tail.row_to in
    let left_a = a_head.col_from in
    let left_b = b_head.col_from in
    let right_a = a_tail.col_to in
    let right_b = b_tail.col_to in
    same_range Down a b (omega (arith, top_a, top_b)) (omega (arith, bottom_a, bottom_b)) (omega (arith, left_a, left_b)) (omega (arith, right_a, right_b))

-- the cells of a run are those that have a range
pub run_has_ranges : (edge : EdgeValue) → IsEdge edge → (cell : Position) → IsIn cell edge.dep ↔ ((range : Corners) × IsPair edge range cell)
run_has_ranges edge is cell =
    let axis = axis_of edge.dep in
    let line = is.line in (
      λ inside.
          let at = lies axis cell edge.dep inside in
          let left = at.left in
          let right = at.right in
          let number = index_in_run edge is cell inside in
          let width : across axis cell ≡ across axis edge.dep.head = omega (arith, left, right, line) in
          let index = along axis cell - along axis edge.dep.head in
          let here : cell ≡ run_cell edge index = sym (cell_again axis cell)
          ∙ ap (λ (k : ℕ). position_at axis k (across axis cell)) number.0
          ∙ ap (position_at axis (along axis edge.dep.head + index)) width in
          (range_at edge index, record { index = index; within = number.1; cell_is = here; range_is = refl }),
      λ has.
          let pair = has.1 in
          let within = pair.within in
          let coordinate : along axis cell ≡ along axis edge.dep.head + pair.index = ap (along axis) pair.cell_is ∙ along_of axis _ _ in
          let width : across axis cell ≡ across axis edge.dep.head = ap (across axis) pair.cell_is ∙ across_of axis _ _ in
          is_in axis cell edge.dep (record {
            from = omega (arith, coordinate);
            to = omega (arith, coordinate, within);
            left = omega (arith, width);
            right = omega (arith, width, line);
          }),
    )

-- a cell has one range
pub one_range : (edge : EdgeValue) (range other : Corners) (cell : Position) → IsPair edge range cell → IsPair edge other cell → range ≡ other
one_range edge range other cell a b =
    let same = one_index edge a.index b.index (sym a.cell_is ∙ b.cell_is) in
    a.range_is ∙ ap (range_at edge) same ∙ sym b.range_is

-- two edges with the same pairs have the same run
pub same_run : (a b : EdgeValue) → IsEdge a → IsEdge b → AlikeInPairs a b → a.dep ≡ b.dep
same_run a b a_is b_is same = same_cells a.dep b.dep a_is.dep.ordered b_is.dep.ordered (λ cell. (
  λ inside. let has = (run_has_ranges a a_is cell).0 inside in (run_has_ranges b b_is cell).1 (has.0, (same has.0 cell).0 has.1),
  λ inside. let has = (run_has_ranges b b_is cell).0 inside in (run_has_ranges a a_is cell).1 (has.0, (same has.0 cell).1 has.1),
))
