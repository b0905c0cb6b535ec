-- An edge's pairs by any direction in which its run is a line. A run of one cell is a line in both.
use Rattle.std.proofs.Common.{◌≡◌, ℕ, ◌+◌, ◌-◌, ◌<◌, ◌⊎◌, inl, inr, arith, refl, sym, ◌∙◌, ap, subst}
use Rattle.std.specs.Prelude.{◌==◌, Bool, true, false}
use Rattle.std.proofs.lemmas.Bool.Decides.{nat_tests}
use Rattle.sheet_refs.specs.Cells.{Position, Corners}
use Rattle.edge_patterns.specs.declared.axis.Axis.{Axis}
use Rattle.edge_patterns.specs.declared.axis.Axis.TheVariants.{Down, Right}
use Rattle.edge_patterns.specs.declared.edge.Pattern.{Pattern}
use Rattle.edge_patterns.specs.declared.edge.Pattern.TheVariants.{Single, Rr, Rf, Fr, Ff, Chain}
use Rattle.edge_patterns.specs.Axes.{along, IsLine, axis_of, count_along, cell_along}
use Rattle.edge_patterns.specs.Edges.{EdgeValue, IsEdge, IsShapeOf, IsPair, IsStill, run_cell, range_at, range_along}
use Rattle.edge_patterns.proofs.Crossings.{cell_again}

-- the pairs of an edge by a direction
pub record IsPairAlong (axis : Axis) (edge : EdgeValue) (range : Corners) (cell : Position) : Type 0 where
  pub index : ℕ
  pub within : index < count_along axis edge.dep
  pub cell_is : cell ≡ cell_along axis edge.dep index
  pub range_is : range ≡ range_along axis edge index

-- cells with the same coordinates are the same
pub same_position : (a b : Position) → a.row ≡ b.row → a.col ≡ b.col → a ≡ b
same_position a b rows cols =
    let same : record { row = a.row; col = a.col } ≡ record { row = b.row; col = b.col } = rw (rows, cols) refl in same

-- a line's direction is its run's, or the run is one cell
pub line_or_cell : (axis : Axis) (run : Corners) → IsLine axis run → (axis_of run ≡ axis) ⊎ (run.head ≡ run.tail)
line_or_cell Down run line = inl (grind (arith, nat_tests))
line_or_cell Right run line = by_test (run.head.col == run.tail.col) refl
  where
    by_test : (test : Bool) → (run.head.col == run.tail.col) ≡ test → (axis_of run ≡ Right) ⊎ (run.head ≡ run.tail)
    by_test true same = inr (let cols : run.head.col ≡ run.tail.col = grind (arith, nat_tests) in same_position run.head run.tail line cols)
    by_test false differs = inl (rw differs refl)

-- an edge of one cell is a single one
pub one_cell : (axis : Axis) (pattern : Pattern) (edge : EdgeValue) → IsShapeOf axis pattern edge → count_along axis edge.dep ≡ 1 → pattern ≡ Single
one_cell axis Single edge shape one = refl
one_cell axis Rr edge shape one = let several = shape.0.several in absurd (omega (arith, several, one))
one_cell axis Rf edge shape one = let several = shape.several in absurd (omega (arith, several, one))
one_cell axis Fr edge shape one = let several = shape.several in absurd (omega (arith, several, one))
one_cell axis Ff edge shape one = absurd (omega (arith, shape, one))
one_cell axis Chain edge shape one = let several = shape.0.several in absurd (omega (arith, several, one))

pub count_one : (axis : Axis) (run : Corners) → run.head ≡ run.tail → count_along axis run ≡ 1
count_one axis run same = let e = ap (along axis) same in omega (arith, e)

-- where neither end moves, each range is the rectangle
pub still_range : (axis : Axis) (edge : EdgeValue) (index : ℕ) → IsStill edge → range_along axis edge index ≡ edge.prec
still_range axis edge index still =
    let head : along axis edge.prec.head + 0 ≡ along axis edge.prec.head = omega arith in
    let tail : along axis edge.prec.tail - 0 ≡ along axis edge.prec.tail = omega arith in
    rw (still.0, still.1, head, tail, cell_again axis edge.prec.head, cell_again axis edge.prec.tail) refl

-- and that of a single one is
pub single_range : (axis : Axis) (edge : EdgeValue) → edge.pattern ≡ Single → range_along axis edge 0 ≡ edge.prec
single_range axis edge single =
    let head : along axis edge.prec.head + 0 ≡ along axis edge.prec.head = omega arith in
    let tail : along axis edge.prec.tail - 0 ≡ along axis edge.prec.tail = omega arith in
    rw (single, head, tail, cell_again axis edge.prec.head, cell_again axis edge.prec.tail) refl

pub first_cell : (axis : Axis) (run : Corners) → cell_along axis run 0 ≡ run.head
first_cell axis run = let head : along axis run.head + 0 ≡ along axis run.head = omega arith in rw head (cell_again axis run.head)

module _ (edge : EdgeValue) (is : IsEdge edge) (axis : Axis) (line : IsLine axis edge.dep) where
  pub to_along : (range : Corners) (cell : Position) → IsPair edge range cell → IsPairAlong axis edge range cell
  to_along range cell pair = either (line_or_cell axis edge.dep line)
    where
      either : (axis_of edge.dep ≡ axis) ⊎ (edge.dep.head ≡ edge.dep.tail) → IsPairAlong axis edge range cell
      either (inl same) =
          subst (λ (direction : Axis). IsPairAlong direction edge range cell) same (record {
            index = pair.index;
            within = pair.within;
            cell_is = pair.cell_is;
            range_is = pair.range_is;
          })
      either (inr cell_alone) =
          let one = count_one (axis_of edge.dep) edge.dep cell_alone in
          let single = one_cell (axis_of edge.dep) edge.pattern edge is.shape one in
          let index : pair.index ≡ 0 = let within = pair.within in omega (arith, within, one) in
          let here = count_one axis edge.dep cell_alone in
          record {
            index = 0;
            within = omega (arith, here);
            cell_is = pair.cell_is ∙ ap (run_cell edge) index ∙ first_cell (axis_of edge.dep) edge.dep ∙ sym (first_cell axis edge.dep);
            range_is = pair.range_is ∙ ap (range_at edge) index ∙ single_range (axis_of edge.dep) edge single ∙ sym (single_range axis edge single);
          }

  pub from_along : (range : Corners) (cell : Position) → IsPairAlong axis edge range cell → IsPair edge range cell
  from_along range cell pair = either (line_or_cell axis edge.dep line)
    where
      either : (axis_of edge.dep ≡ axis) ⊎ (edge.dep.head ≡ edge.dep.tail) → IsPair edge range cell
      either (inl same) =
          let there = subst (λ (direction : Axis). IsPairAlong direction edge range cell) (sym same) pair in
          record { index = there.index; within = there.within; cell_is = there.cell_is; range_is = there.range_is }
      either (inr cell_alone) =
          let one = count_one (axis_of edge.dep) edge.dep cell_alone in
          let single = one_cell (axis_of edge.dep) edge.pattern edge is.shape one in
          let here = count_one axis edge.dep cell_alone in
          let index : pair.index ≡ 0 = let within = pair.within in omega (arith, within, here) in
          record {
            index = 0;
            within = omega (arith, one);
            cell_is = pair.cell_is ∙ ap (cell_along axis edge.dep) index ∙ first_cell axis edge.dep ∙ sym (first_cell (axis_of edge.dep) edge.dep);
            range_is = pair.range_is ∙ ap (range_along axis edge) index ∙ single_range axis edge single ∙ sym (single_range (axis_of edge.dep) edge single);
          }
