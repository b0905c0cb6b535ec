-- Edges that can be joined lie near one another.
use Rattle.std.proofs.Common.{◌⊎◌, inl, inr, ℕ, ◌-◌, ◌≤◌, Bool, true, false, sym, arith}
use Rattle.edge_patterns.specs.declared.axis.Axis.{Axis}
use Rattle.edge_patterns.specs.declared.axis.Axis.TheVariants.{Down, Right}
use Rattle.edge_patterns.specs.Axes.{count_along}
use Rattle.edge_patterns.specs.Edges.{EdgeValue, IsEdge, head_moves, steps_if, tail_moves}
use Rattle.edge_patterns.specs.Joins.{Follows, HasBothPairs, CanBeJoined}
use Rattle.edge_patterns.proofs.JoinLemmas.{ends_of, head_goes, shape_along, tail_goes}
use Rattle.edge_patterns.proofs.JoinedLemmas.{front_some, rear_some, union_ends, union_wide, whole, whole_count, whole_line}
use Rattle.taco_graph.specs.Near.{LieNear}
use Rattle.taco_graph.proofs.SideLemmas.{flipped}

-- where two edges have a union, their rectangles lie near one another
steps_few : (moves : Bool) (count : ℕ) → steps_if moves count ≤ count
steps_few true count = omega arith
steps_few false count = omega arith

module _ (axis : Axis) (front rear : EdgeValue) (front_is : IsEdge front) (rear_is : IsEdge rear) (follows : Follows axis front.dep rear.dep)
    (edge : EdgeValue) (union : HasBothPairs front rear edge) where
  near_union : LieNear axis front rear
  near_union =
      let f = ends_of axis front (shape_along front front_is axis follows.front_line) in
      let r = ends_of axis rear (shape_along rear rear_is axis follows.rear_line) in
      let has = union_ends axis front rear front_is rear_is follows edge union in
      let line = whole_line axis front rear front_is rear_is follows in
      let count = whole_count axis front rear front_is rear_is follows in
      let front_has = front_some axis front rear front_is rear_is follows in
      let rear_has = rear_some axis front rear front_is rear_is follows in
      let head = head_goes axis (whole axis front rear front_is rear_is follows) _ _ edge line has in
      let tail = tail_goes axis (whole axis front rear front_is rear_is follows) _ _ edge line has in
      let whole_head = steps_few (head_moves edge.pattern) (count_along axis (whole axis front rear front_is rear_is follows) - 1) in
      let whole_tail = steps_few (tail_moves edge.pattern) (count_along axis (whole axis front rear front_is rear_is follows) - 1) in
      let front_tail = steps_few (tail_moves front.pattern) (count_along axis front.dep - 1) in
      let rear_head = steps_few (head_moves rear.pattern) (count_along axis rear.dep - 1) in
      record {
        wide = union_wide axis front rear front_is rear_is follows edge union;
        head = (
          omega (arith, f.head, r.head, r.head_last, head, whole_head, rear_head, count, front_has, rear_has),
          omega (arith, f.head, r.head, r.head_last, head, whole_head, rear_head, count, front_has, rear_has),
        );
        tail = (
          omega (arith, f.tail, r.tail, f.tail_last, tail, whole_tail, front_tail, count, front_has, rear_has),
          omega (arith, f.tail, r.tail, f.tail_last, tail, whole_tail, front_tail, count, front_has, rear_has),
        );
      }

near_back : (axis : Axis) (a b : EdgeValue) → LieNear axis a b → LieNear axis b a
near_back axis a b near = record {
  wide = record { left = sym near.wide.left; right = sym near.wide.right };
  head = (omega (arith, near.head.1), omega (arith, near.head.0));
  tail = (omega (arith, near.tail.1), omega (arith, near.tail.0));
}

-- edges whose rectangles lie near one another in no direction can't be joined
pub apart_fail : (a b : EdgeValue) → IsEdge a → IsEdge b → ¬ LieNear Down a b → ¬ LieNear Right a b → ¬ CanBeJoined a b
apart_fail a b a_is b_is down right able = by_axis able.1.neighbours.0 able.1.neighbours.1
  where
    near : (axis : Axis) → Follows axis a.dep b.dep ⊎ Follows axis b.dep a.dep → LieNear axis a b
    near axis (inl follows) = near_union axis a b a_is b_is follows able.0 able.1.union
    near axis (inr follows) = near_back axis b a (near_union axis b a b_is a_is follows able.0 (flipped a b able.0 able.1.union))

    by_axis : (axis : Axis) → Follows axis a.dep b.dep ⊎ Follows axis b.dep a.dep → ⊥
    by_axis Down either = down (near Down either)
    by_axis Right either = right (near Right either)
