-- Two neighbours within one edge are a part of it together.
use Rattle.std.proofs.Common.{◌≡◌, ◌⊎◌, inl, inr, ℕ, ◌+◌, ◌-◌, ◌≤◌, ◌<◌, arith, refl, sym, ◌∙◌, ap, subst}
use Rattle.std.proofs.lemmas.Bool.{cases_lt}
use Rattle.sheet_refs.specs.Cells.{Position, Corners, IsIn, IsOrdered}
use Rattle.edge_patterns.specs.declared.axis.Axis.{Axis}
use Rattle.edge_patterns.specs.declared.axis.Axis.TheVariants.{Down, Right}
use Rattle.edge_patterns.specs.Axes.{along, across, IsLine, axis_of}
use Rattle.edge_patterns.specs.Edges.{EdgeValue, IsEdge, IsPair, run_length, part_of}
use Rattle.edge_patterns.specs.Joins.{Follows, AreNeighbours, HasBothPairs, PairsAreOf, CanBeJoined}
use Rattle.edge_patterns.specs.Indices.{StandsBetween}
use Rattle.edge_patterns.proofs.Crossings.{Lies, lies, is_in, ordered, along_of}
use Rattle.edge_patterns.proofs.PartLemmas.{part_pairs}
use Rattle.edge_patterns.proofs.PartShapes.{part_is_edge}
use Rattle.edge_patterns.proofs.UnionLemmas.{run_has_ranges, one_range}

-- the cells of a part's run are cells of the run
pub run_within : (edge part : EdgeValue) → IsEdge edge → IsEdge part → PairsAreOf part edge → (cell : Position) → IsIn cell part.dep → IsIn cell edge.dep
run_within edge part edge_is part_is within cell inside =
    let has = (run_has_ranges part part_is cell).0 inside in (run_has_ranges edge edge_is cell).1 (has.0, within has.0 cell has.1)

pub first_in : (run : Corners) → IsOrdered run.head run.tail → IsIn run.head run
first_in run order = record { row_from = omega arith; row_to = order.rows; col_from = omega arith; col_to = order.cols }

pub last_in : (run : Corners) → IsOrdered run.head run.tail → IsIn run.tail run
last_in run order = record { row_from = order.rows; row_to = omega arith; col_from = order.cols; col_to = omega arith }

-- a pair of the edge whose cell lies in a part's run is a pair of the part
pub pair_of_part : (edge part : EdgeValue) → IsEdge part → PairsAreOf part edge → (range : Corners) (cell : Position)
    → IsPair edge range cell → IsIn cell part.dep → IsPair part range cell
pair_of_part edge part part_is within range cell pair inside =
    let has = (run_has_ranges part part_is cell).0 inside in
    subst (λ (r : Corners). IsPair part r cell) (one_range edge has.0 range cell (within has.0 cell has.1) pair) has.1

module _ (edge a b : EdgeValue) (edge_is : IsEdge edge) (a_is : IsEdge a) (b_is : IsEdge b) (a_in : PairsAreOf a edge)
    (b_in : PairsAreOf b edge) (follows : Follows (axis_of edge.dep) a.dep b.dep) where
  abbrev axis : Axis
  axis = axis_of edge.dep

  abbrev from : ℕ
  from = along axis a.dep.head - along axis edge.dep.head

  abbrev to : ℕ
  to = along axis b.dep.tail - along axis edge.dep.head

  a_first : Lies axis a.dep.head edge.dep
  a_first = lies axis a.dep.head edge.dep (run_within edge a edge_is a_is a_in a.dep.head (first_in a.dep a_is.dep.ordered))

  b_last : Lies axis b.dep.tail edge.dep
  b_last = lies axis b.dep.tail edge.dep (run_within edge b edge_is b_is b_in b.dep.tail (last_in b.dep b_is.dep.ordered))

  a_line : along axis a.dep.head ≤ along axis a.dep.tail
  a_line = (ordered axis a.dep a_is.dep.ordered).line

  b_line : along axis b.dep.head ≤ along axis b.dep.tail
  b_line = (ordered axis b.dep b_is.dep.ordered).line

  in_order : from ≤ to
  in_order = omega (arith, a_first.from, b_last.from, a_line, b_line, follows.next)

  inside : to < run_length edge
  inside = omega (arith, b_last.from, b_last.to)

  part : IsEdge (part_of edge from to)
  part = part_is_edge edge edge_is from to in_order inside

  at : (range : Corners) (cell : Position) → (pair : IsPair edge range cell) → along axis cell ≡ along axis edge.dep.head + pair.index
  at range cell pair = ap (along axis) pair.cell_is ∙ along_of axis _ _

  stands : (range : Corners) (cell : Position) → IsPair edge range cell → along axis a.dep.head ≤ along axis cell
      → along axis cell ≤ along axis b.dep.tail → StandsBetween edge from (to + 1) cell
  stands range cell pair low high = record {
    index = pair.index;
    begins = omega (arith, at range cell pair, low, a_first.from);
    ends = omega (arith, at range cell pair, high, b_last.from);
    cell_is = pair.cell_is;
  }

  both : HasBothPairs a b (part_of edge from to)
  both = record { is_edge = part; pairs = λ range cell. (split_up range cell, put_together range cell) }
    where
      -- across the direction all cells of the three runs have one coordinate
      wide : (cell : Position) → IsIn cell edge.dep → (across axis cell ≡ across axis a.dep.head) × (across axis cell ≡ across axis b.dep.head)
      wide cell here =
          let c = lies axis cell edge.dep here in (
            omega (arith, c.left, c.right, a_first.left, a_first.right, edge_is.line),
            omega (arith, c.left, c.right, a_first.left, a_first.right, edge_is.line, follows.same_line),
          )

      split_up : (range : Corners) (cell : Position) → IsPair (part_of edge from to) range cell → IsPair a range cell ⊎ IsPair b range cell
      split_up range cell pair =
          let (of_edge, between) = (part_pairs edge edge_is from to in_order inside part range cell).0 pair in
          let w = wide cell ((run_has_ranges edge edge_is cell).1 (range, of_edge)) in
          let where_is : along axis cell ≡ along axis edge.dep.head + between.index = ap (along axis) between.cell_is ∙ along_of axis _ _ in
          elim (cases_lt (along axis a.dep.tail) (along axis cell)) [
            | inl past ↦ inr (pair_of_part edge b b_is b_in range cell of_edge (is_in axis cell b.dep (record {
              from = omega (arith, past, follows.next);
              to = omega (arith, where_is, between.ends, b_last.from);
              left = omega (arith, w.1);
              right = omega (arith, w.1, follows.rear_line);
            })))
            | inr up_to ↦ inl (pair_of_part edge a a_is a_in range cell of_edge (is_in axis cell a.dep (record {
              from = omega (arith, where_is, between.begins, a_first.from);
              to = omega (arith, up_to);
              left = omega (arith, w.0);
              right = omega (arith, w.0, follows.front_line);
            })))
          ]

      put_together : (range : Corners) (cell : Position) → IsPair a range cell ⊎ IsPair b range cell → IsPair (part_of edge from to) range cell
      put_together range cell (inl pair) =
          let of_edge = a_in range cell pair in
          let c = lies axis cell a.dep ((run_has_ranges a a_is cell).1 (range, pair)) in
          (part_pairs edge edge_is from to in_order inside part range cell).1 (
            of_edge,
            stands range cell of_edge c.from (omega (arith, c.to, follows.next, b_line)),
          )
      put_together range cell (inr pair) =
          let of_edge = b_in range cell pair in
          let c = lies axis cell b.dep ((run_has_ranges b b_is cell).1 (range, pair)) in
          (part_pairs edge edge_is from to in_order inside part range cell).1 (
            of_edge,
            stands range cell of_edge (omega (arith, c.from, follows.next, a_line)) c.to,
          )

-- the direction of two neighbours within an edge is the edge's
axis_within : (axis : Axis) (edge a b : EdgeValue) → IsEdge edge → IsEdge a → IsEdge b → PairsAreOf a edge
    → PairsAreOf b edge → Follows axis a.dep b.dep → axis_of edge.dep ≡ axis
axis_within axis edge a b edge_is a_is b_is a_in b_in follows =
    by_axis (axis_of edge.dep) axis edge_is.line
    (lies (axis_of edge.dep) a.dep.tail edge.dep (run_within edge a edge_is a_is a_in a.dep.tail (last_in a.dep a_is.dep.ordered)))
    (lies (axis_of edge.dep) b.dep.head edge.dep (run_within edge b edge_is b_is b_in b.dep.head (first_in b.dep b_is.dep.ordered))) follows.next
  where
    by_axis : (own other : Axis) → IsLine own edge.dep → Lies own a.dep.tail edge.dep → Lies own b.dep.head edge.dep
        → along other a.dep.tail + 1 ≡ along other b.dep.head → own ≡ other
    by_axis Down Down line one two next = refl
    by_axis Right Right line one two next = refl
    by_axis Down Right line one two next = absurd (omega (arith, line, one.left, one.right, two.left, two.right, next))
    by_axis Right Down line one two next = absurd (omega (arith, line, one.left, one.right, two.left, two.right, next))

-- so they can be joined
pub joins_before : (axis : Axis) (edge a b : EdgeValue) → IsEdge edge → IsEdge a → IsEdge b → PairsAreOf a edge
    → PairsAreOf b edge → Follows axis a.dep b.dep → CanBeJoined a b
joins_before axis edge a b edge_is a_is b_is a_in b_in follows =
    let own = subst (λ (x : Axis). Follows x a.dep b.dep) (sym (axis_within axis edge a b edge_is a_is b_is a_in b_in follows)) follows in
    (part_of edge _ _, record { neighbours = (axis, inl follows); union = both edge a b edge_is a_is b_is a_in b_in own })

-- the order of two edges doesn't matter
pub joins_flipped : (a b : EdgeValue) → CanBeJoined a b → CanBeJoined b a
joins_flipped a b (joined, join) = (
  joined,
  record {
    neighbours = (join.neighbours.0, elim join.neighbours.1 [ inl after ↦ inr after | inr before ↦ inl before ]);
    union = record {
      is_edge = join.union.is_edge;
      pairs = λ range cell. (
        λ pair. elim ((join.union.pairs range cell).0 pair) [ inl of_a ↦ inr of_a | inr of_b ↦ inl of_b ],
        λ either. elim either [ inl of_b ↦ (join.union.pairs range cell).1 (inr of_b) | inr of_a ↦ (join.union.pairs range cell).1 (inl of_a) ],
      );
    };
  },
)

-- two neighbours within one edge can be joined
pub joins_within : (edge a b : EdgeValue) → IsEdge edge → IsEdge a → IsEdge b → PairsAreOf a edge → PairsAreOf b edge
    → AreNeighbours a.dep b.dep → CanBeJoined a b
joins_within edge a b edge_is a_is b_is a_in b_in (axis, inl follows) = joins_before axis edge a b edge_is a_is b_is a_in b_in follows
joins_within edge a b edge_is a_is b_is a_in b_in (axis, inr follows) = joins_flipped b a (joins_before axis edge b a edge_is b_is a_is b_in a_in follows)
