-- The ranges of an edge's cells, by coordinates.
use Rattle.std.proofs.Common.{◌≡◌, ℕ, ◌≤◌, ◌<◌, arith, refl}
use Rattle.std.specs.Prelude.{◌↔◌}
use Rattle.sheet_refs.specs.Cells.{Corners, IsOrdered}
use Rattle.sheet_refs.specs.Rectangles.{Overlap}
use Rattle.edge_patterns.specs.declared.axis.Axis.{Axis}
use Rattle.edge_patterns.specs.declared.axis.Axis.TheVariants.{Down, Right}
use Rattle.edge_patterns.specs.declared.edge.Pattern.{Pattern}
use Rattle.edge_patterns.specs.declared.edge.Pattern.TheVariants.{Single, Rr, Rf, Fr, Ff, Chain}
use Rattle.edge_patterns.specs.declared.queries.Indices.{Indices}
use Rattle.edge_patterns.specs.Axes.{along, across, axis_of, count_along}
use Rattle.edge_patterns.specs.Edges.{EdgeValue, IsEdge, IsShapeOf, run_length, range_at, first_along, last_along, range_along}
use Rattle.edge_patterns.specs.Indices.{IsFirst, IsLast, IsHit}
use Rattle.edge_patterns.proofs.Crossings.{ordered, is_ordered, Crossed, crossed, overlap}

-- over a run of this shape no range has its head past its tail
pub ends_ordered : (axis : Axis) (pattern : Pattern) (edge : EdgeValue) → edge.pattern ≡ pattern
    → IsShapeOf axis pattern edge → along axis edge.prec.head ≤ along axis edge.prec.tail → (index : ℕ)
    → index < count_along axis edge.dep → first_along axis edge index ≤ last_along axis edge index
ends_ordered axis Single edge is shape line index within = rw is (omega arith)
ends_ordered axis Rr edge is shape line index within = rw is (let fits = shape.0.fits in omega arith)
ends_ordered axis Rf edge is shape line index within = rw is (let fits = shape.fits in omega arith)
ends_ordered axis Fr edge is shape line index within = rw is (let fits = shape.fits in omega arith)
ends_ordered axis Ff edge is shape line index within = rw is (omega arith)
ends_ordered axis Chain edge is shape line index within = rw is (let fits = shape.0.fits in omega arith)

-- the ends of a range, by coordinates
pub record Spans (axis : Axis) (edge : EdgeValue) (index : ℕ) (range : Corners) : Type 0 where
  pub head : along axis range.head ≡ first_along axis edge index
  pub tail : along axis range.tail ≡ last_along axis edge index
  pub left : across axis range.head ≡ across axis edge.prec.head
  pub right : across axis range.tail ≡ across axis edge.prec.tail

pub spans : (axis : Axis) (edge : EdgeValue) (index : ℕ) → Spans axis edge index (range_along axis edge index)
spans Down edge index = record { head = refl; tail = refl; left = refl; right = refl }
spans Right edge index = record { head = refl; tail = refl; left = refl; right = refl }

-- each range of an edge is in order
pub range_ordered : (edge : EdgeValue) → IsEdge edge → (index : ℕ) → index < run_length edge → IsOrdered (range_at edge index).head (range_at edge index).tail
range_ordered edge is index within =
    let axis = axis_of edge.dep in
    let at = spans axis edge index in
    let prec = ordered axis edge.prec is.prec.ordered in
    let line = ends_ordered axis edge.pattern edge refl is.shape prec.line index within in
    is_ordered axis (range_at edge index) (record {
      line = rw (at.head, at.tail) line;
      width = rw (at.left, at.right) prec.width;
    })

-- a range of an edge overlaps a query exactly where their coordinates cross
pub hit_from : (edge : EdgeValue) → IsEdge edge → (query : Corners) → IsOrdered query.head query.tail
    → Crossed (axis_of edge.dep) edge.prec query → (index : ℕ) → index < run_length edge
    → first_along (axis_of edge.dep) edge index ≤ along (axis_of edge.dep) query.tail
    → along (axis_of edge.dep) query.head ≤ last_along (axis_of edge.dep) edge index → IsHit edge query index
hit_from edge is query query_ordered wide index within begins ends =
    let axis = axis_of edge.dep in
    let at = spans axis edge index in
    overlap axis (range_at edge index) query (range_ordered edge is index within) query_ordered (record {
      begins = rw at.head begins;
      ends = rw at.tail ends;
      left = rw at.left wide.left;
      right = rw at.right wide.right;
    })

pub hit_crosses : (edge : EdgeValue) (query : Corners) (index : ℕ) → IsHit edge query index
    → (first_along (axis_of edge.dep) edge index ≤ along (axis_of edge.dep) query.tail)
    × (along (axis_of edge.dep) query.head ≤ last_along (axis_of edge.dep) edge index)
hit_crosses edge query index hit =
    let axis = axis_of edge.dep in
    let at = spans axis edge index in
    let is = crossed axis (range_at edge index) query hit in
    (rw at.head at is.begins, rw at.tail at is.ends)

-- each range of an edge is within the rectangle
pub hit_overlaps : (edge : EdgeValue) → IsEdge edge → (query : Corners) → IsOrdered query.head query.tail → (index : ℕ)
    → index < run_length edge → IsHit edge query index → Overlap edge.prec query
hit_overlaps edge is query query_ordered index within hit =
    let axis = axis_of edge.dep in
    let at = spans axis edge index in
    let is_crossed = crossed axis (range_at edge index) query hit in
    let begins = rw at.head at is_crossed.begins in
    let ends = rw at.tail at is_crossed.ends in
    overlap axis edge.prec query is.prec.ordered query_ordered (record {
      begins = omega (arith, begins);
      ends = omega (arith, ends);
      left = rw at.left at is_crossed.left;
      right = rw at.right at is_crossed.right;
    })

-- the indices that are hit, from where ranges end late enough and where they begin early enough
pub hit_between : (edge : EdgeValue) → IsEdge edge → (query : Corners) → IsOrdered query.head query.tail → Overlap edge.prec query → (indices : Indices)
    → IsFirst (run_length edge) (λ index. along (axis_of edge.dep) query.head ≤ last_along (axis_of edge.dep) edge index) indices.from
    → IsLast (run_length edge) (λ index. first_along (axis_of edge.dep) edge index ≤ along (axis_of edge.dep) query.tail) indices.to
    → (index : ℕ) → index < run_length edge → (indices.from ≤ index × index ≤ indices.to) ↔ IsHit edge query index
hit_between edge is query query_ordered prec indices first last index within =
    let wide = crossed (axis_of edge.dep) edge.prec query prec in (
      λ between. hit_from edge is query query_ordered wide index within ((last.to index within).0 between.1) ((first.from index within).0 between.0),
      λ hit. let is_crossed = hit_crosses edge query index hit in ((first.from index within).1 is_crossed.1, (last.to index within).1 is_crossed.0),
    )
