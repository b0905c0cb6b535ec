-- Edges by the ranges at their ends: two edges that move alike and agree at two cells agree at all between them.
use Rattle.std.proofs.Common.{◌≡◌, ℕ, ◌+◌, ◌-◌, ◌≤◌, ◌<◌, ◌⊎◌, inl, inr, arith, refl, sym, ◌∙◌, ap, subst}
use Rattle.std.specs.Prelude.{Bool, true, false, min, max}
use Rattle.sheet_refs.specs.Cells.{Position, Corners, IsOrdered, span_of}
use Rattle.edge_patterns.specs.declared.axis.Axis.{Axis}
use Rattle.edge_patterns.specs.declared.edge.Pattern.{Pattern}
use Rattle.edge_patterns.specs.declared.edge.Pattern.TheVariants.{Single, Rr, Rf, Fr, Ff, Chain}
use Rattle.edge_patterns.specs.Axes.{along, across, IsLine, axis_of, count_along}
use Rattle.edge_patterns.specs.Edges.{EdgeValue, IsEdge, IsShapeOf, run_length, range_at, range_along, steps_if, head_moves, tail_moves, edge_of}
use Rattle.edge_patterns.specs.Joins.{HasEnds, IsAsWide, Moves}
use Rattle.edge_patterns.proofs.Crossings.{ordered, is_ordered, cell_again}
use Rattle.edge_patterns.proofs.EdgeLemmas.{spans}
use Rattle.edge_patterns.proofs.AxisLemmas.{line_or_cell, one_cell, count_one, single_range}
use Rattle.edge_patterns.proofs.PartLemmas.{no_steps}

-- ranges with the same coordinates are the same
pub same_range : (axis : Axis) (a b : Corners) → along axis a.head ≡ along axis b.head
    → along axis a.tail ≡ along axis b.tail → across axis a.head ≡ across axis b.head
    → across axis a.tail ≡ across axis b.tail → a ≡ b
same_range axis a b head tail left right =
    let heads : a.head ≡ b.head = sym (cell_again axis a.head) ∙ rw (head, left) (cell_again axis b.head) in
    let tails : a.tail ≡ b.tail = sym (cell_again axis a.tail) ∙ rw (tail, right) (cell_again axis b.tail) in
    let same : record { head = a.head; tail = a.tail } ≡ record { head = b.head; tail = b.tail } = rw (heads, tails) refl in
    same

-- what each edge has by a direction in which its run is a line
pub shape_along : (edge : EdgeValue) → IsEdge edge → (axis : Axis) → IsLine axis edge.dep → IsShapeOf axis edge.pattern edge
shape_along edge is axis line = either (line_or_cell axis edge.dep line)
  where
    either : (axis_of edge.dep ≡ axis) ⊎ (edge.dep.head ≡ edge.dep.tail) → IsShapeOf axis edge.pattern edge
    either (inl same) = subst (λ (direction : Axis). IsShapeOf direction edge.pattern edge) same is.shape
    either (inr alone) =
        let single = one_cell (axis_of edge.dep) edge.pattern edge is.shape (count_one (axis_of edge.dep) edge.dep alone) in
        subst (λ (pattern : Pattern). IsShapeOf axis pattern edge) (sym single) (count_one axis edge.dep alone)

pub range_either : (edge : EdgeValue) → IsEdge edge → (axis : Axis) → IsLine axis edge.dep → (index : ℕ)
    → index < run_length edge → range_at edge index ≡ range_along axis edge index
range_either edge is axis line index within = either (line_or_cell axis edge.dep line)
  where
    either : (axis_of edge.dep ≡ axis) ⊎ (edge.dep.head ≡ edge.dep.tail) → range_at edge index ≡ range_along axis edge index
    either (inl same) = ap (λ (direction : Axis). range_along direction edge index) same
    either (inr alone) =
        let one = count_one (axis_of edge.dep) edge.dep alone in
        let single = one_cell (axis_of edge.dep) edge.pattern edge is.shape one in
        let first : index ≡ 0 = omega (arith, within, one) in
        ap (range_at edge) first ∙ single_range (axis_of edge.dep) edge single ∙ sym (single_range axis edge single) ∙ ap (range_along axis edge) (sym first)

pub length_either : (edge : EdgeValue) (axis : Axis) → IsLine axis edge.dep → run_length edge ≡ count_along axis edge.dep
length_either edge axis line = either (line_or_cell axis edge.dep line)
  where
    either : (axis_of edge.dep ≡ axis) ⊎ (edge.dep.head ≡ edge.dep.tail) → run_length edge ≡ count_along axis edge.dep
    either (inl same) = ap (λ (direction : Axis). count_along direction edge.dep) same
    either (inr alone) = count_one (axis_of edge.dep) edge.dep alone ∙ sym (count_one axis edge.dep alone)

-- a moving tail has room for its steps
pub tail_room : (axis : Axis) (pattern : Pattern) (edge : EdgeValue) → IsShapeOf axis pattern edge
    → steps_if (tail_moves pattern) (count_along axis edge.dep - 1) ≤ along axis edge.prec.tail
tail_room axis Single edge shape = omega arith
tail_room axis Rr edge shape = let fits = shape.0.fits in omega (arith, fits)
tail_room axis Rf edge shape = omega arith
tail_room axis Fr edge shape = let fits = shape.fits in omega (arith, fits)
tail_room axis Ff edge shape = omega arith
tail_room axis Chain edge shape = let fits = shape.0.fits in omega (arith, fits)

-- the ends of an edge, by coordinates: what moves has moved on by all its steps
pub record Ends (axis : Axis) (edge : EdgeValue) (first last : Corners) : Type 0 where
  pub head : along axis first.head ≡ along axis edge.prec.head
  pub head_last : Moves (along axis first.head) (along axis last.head) (count_along axis edge.dep - 1) (head_moves edge.pattern)
  pub tail : along axis last.tail ≡ along axis edge.prec.tail
  pub tail_last : Moves (along axis first.tail) (along axis last.tail) (count_along axis edge.dep - 1) (tail_moves edge.pattern)
  pub left : across axis first.head ≡ across axis edge.prec.head
  pub left_last : across axis last.head ≡ across axis edge.prec.head
  pub right : across axis first.tail ≡ across axis edge.prec.tail
  pub right_last : across axis last.tail ≡ across axis edge.prec.tail

steps_back : (moves : Bool) (last count : ℕ) → steps_if moves (count - 1) ≤ last → last - steps_if moves (count - 1 - 0) + steps_if moves (count - 1) ≡ last
steps_back true last count room = omega (arith, room)
steps_back false last count room = omega arith

no_steps_back : (moves : Bool) (last count : ℕ) → last - steps_if moves (count - 1 - (count - 1)) ≡ last
no_steps_back true last count = omega arith
no_steps_back false last count = omega arith

pub ends_of : (axis : Axis) (edge : EdgeValue) → IsShapeOf axis edge.pattern edge
    → Ends axis edge (range_along axis edge 0) (range_along axis edge (count_along axis edge.dep - 1))
ends_of axis edge shape =
    let first = spans axis edge 0 in
    let last = spans axis edge (count_along axis edge.dep - 1) in
    let room = tail_room axis edge.pattern edge shape in
    record {
      head = rw first.head (no_steps (head_moves edge.pattern) _);
      head_last = rw (first.head, last.head, no_steps (head_moves edge.pattern) (along axis edge.prec.head)) refl;
      tail = rw last.tail (no_steps_back (tail_moves edge.pattern) _ _);
      tail_last =
          rw (
            first.tail,
            last.tail,
            no_steps_back (tail_moves edge.pattern) (along axis edge.prec.tail)
                (count_along axis edge.dep),
          ) (sym (steps_back (tail_moves edge.pattern) _ _ room));
      left = first.left;
      left_last = last.left;
      right = first.right;
      right_last = last.right;
    }

pub ends_at : (axis : Axis) (dep first last : Corners) (edge : EdgeValue) → IsLine axis dep → HasEnds axis dep first last edge → Ends axis edge first last
ends_at axis dep first last edge line has =
    let on : IsLine axis edge.dep = rw has.dep_is line in
    let ends = ends_of axis edge (shape_along edge has.is_edge axis on) in
    let last_is : range_along axis edge (count_along axis edge.dep - 1) ≡ last =
    ap (λ (run : Corners). range_along axis edge (count_along axis run - 1)) has.dep_is ∙ has.last_is in
    subst (λ (range : Corners). Ends axis edge range last) has.first_is
    (subst (λ (range : Corners). Ends axis edge (range_along axis edge 0) range) last_is ends)

-- its first and last ranges are as wide as its rectangle
pub as_wide : (axis : Axis) (dep first last : Corners) (edge : EdgeValue) → IsLine axis dep → HasEnds axis dep first last edge → IsAsWide axis first last
as_wide axis dep first last edge line has =
    let ends = ends_at axis dep first last edge line has in
    record { left = ends.left ∙ sym ends.left_last; right = ends.right ∙ sym ends.right_last }

-- what moves along an edge with these ends
pub head_goes : (axis : Axis) (dep first last : Corners) (edge : EdgeValue) → IsLine axis dep
    → HasEnds axis dep first last edge → Moves (along axis first.head) (along axis last.head) (count_along axis dep - 1)
    (head_moves edge.pattern)
head_goes axis dep first last edge line has =
    subst (λ (run : Corners). Moves (along axis first.head) (along axis last.head) (count_along axis run - 1)
    (head_moves edge.pattern)) has.dep_is (ends_at axis dep first last edge line has).head_last

pub tail_goes : (axis : Axis) (dep first last : Corners) (edge : EdgeValue) → IsLine axis dep
    → HasEnds axis dep first last edge → Moves (along axis first.tail) (along axis last.tail) (count_along axis dep - 1)
    (tail_moves edge.pattern)
tail_goes axis dep first last edge line has =
    subst (λ (run : Corners). Moves (along axis first.tail) (along axis last.tail) (count_along axis run - 1)
    (tail_moves edge.pattern)) has.dep_is (ends_at axis dep first last edge line has).tail_last

-- the rectangle between two corners in order has these corners
pub ordered_span : (a b : Position) → IsOrdered a b → span_of a b ≡ record { head = a; tail = b }
ordered_span a b is =
    let rows = is.rows in
    let cols = is.cols in
    let top : min a.row b.row ≡ a.row = omega (arith, rows) in
    let left : min a.col b.col ≡ a.col = omega (arith, cols) in
    let bottom : max a.row b.row ≡ b.row = omega (arith, rows) in
    let right : max a.col b.col ≡ b.col = omega (arith, cols) in
    rw (top, left, bottom, right) refl

moves_on : (moves : Bool) (first last count : ℕ) → Moves first last count moves → first ≤ last
moves_on true first last count goes = omega (arith, goes)
moves_on false first last count goes = omega (arith, goes)

pub outer_corners : (axis : Axis) (first last : Corners) (count : ℕ) (moves : Bool) → IsOrdered last.head last.tail
    → across axis first.head ≡ across axis last.head → Moves (along axis first.head) (along axis last.head) count moves
    → span_of first.head last.tail ≡ record { head = first.head; tail = last.tail }
outer_corners axis first last count moves is left goes =
    let at = ordered axis last is in
    let line = at.line in
    let width = at.width in
    let on = moves_on moves _ _ count goes in
    ordered_span first.head last.tail (is_ordered axis (record { head = first.head; tail = last.tail })
    (record { line = omega (arith, line, on); width = omega (arith, width, left) }))

back_again : (moves : Bool) (first count : ℕ) → first + steps_if moves (count - 1) - steps_if moves (count - 1 - 0) ≡ first
back_again true first count = omega arith
back_again false first count = omega arith

-- an edge between two ranges, whose ends move as its pattern says, has them at its ends
pub has_ends : (axis : Axis) (dep first last : Corners) (pattern : Pattern)
    → Moves (along axis first.head) (along axis last.head) (count_along axis dep - 1) (head_moves pattern)
    → Moves (along axis first.tail) (along axis last.tail) (count_along axis dep - 1) (tail_moves pattern)
    → across axis first.head ≡ across axis last.head → across axis first.tail ≡ across axis last.tail
    → IsEdge (edge_of dep (record { head = first.head; tail = last.tail }) pattern)
    → HasEnds axis dep first last (edge_of dep (record { head = first.head; tail = last.tail }) pattern)
has_ends axis dep first last pattern head_on tail_on left right is =
    let edge = edge_of dep (record { head = first.head; tail = last.tail }) pattern in
    let at_first = spans axis edge 0 in
    let at_last = spans axis edge (count_along axis dep - 1) in
    record {
      is_edge = is;
      dep_is = refl;
      first_is = same_range axis (range_along axis edge 0) first (at_first.head ∙ no_steps (head_moves pattern) _)
          (at_first.tail ∙ rw tail_on (back_again (tail_moves pattern) _ _)) at_first.left (at_first.right ∙ sym right);
      last_is = same_range axis (range_along axis edge (count_along axis dep - 1)) last (at_last.head
          ∙ sym head_on) (at_last.tail ∙ no_steps_back (tail_moves pattern) _ _) (at_last.left ∙ left) at_last.right;
    }
