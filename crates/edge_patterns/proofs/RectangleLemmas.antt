-- The rectangle of an edge, and what a query of its run refers to.
use Rattle.std.proofs.Common.{◌≡◌, ℕ, ◌-◌, ◌<◌, arith, refl, sym, ◌∙◌, ap, subst}
use Rattle.std.specs.Prelude.{◌↔◌, Bool, true, false}
use Rattle.sheet_refs.specs.Cells.{Position, Corners, IsIn, IsOrdered}
use Rattle.sheet_refs.specs.Rectangles.{Overlap}
use Rattle.edge_patterns.specs.declared.queries.Indices.{Indices}
use Rattle.edge_patterns.specs.Axes.{along, axis_of}
use Rattle.edge_patterns.specs.Edges.{EdgeValue, IsEdge, IsPair, run_length, run_cell, range_at, first_along}
use Rattle.edge_patterns.specs.Edges.{last_along, part_of_prec, steps_if, head_moves, tail_moves, single_edge}
use Rattle.edge_patterns.specs.Indices.{AreMeant, IsAsked, IsHit}
use Rattle.edge_patterns.specs.Queries.{IsReferred}
use Rattle.edge_patterns.proofs.Crossings.{ordered, cell_again}
use Rattle.edge_patterns.proofs.AxisLemmas.{count_one, single_range, first_cell}
use Rattle.edge_patterns.proofs.EdgeLemmas.{range_ordered}
use Rattle.edge_patterns.proofs.PartLemmas.{no_steps}
use Rattle.edge_patterns.proofs.ReferredLemmas.{referred_covers}
use Rattle.edge_patterns.proofs.UnionLemmas.{run_has_ranges}

pub pair_ordered : (edge : EdgeValue) → IsEdge edge → (range : Corners) (cell : Position) → IsPair edge range cell → IsOrdered range.head range.tail
pair_ordered edge is range cell pair =
    subst (λ (r : Corners). IsOrdered r.head r.tail) (sym pair.range_is) (range_ordered edge is pair.index pair.within)

no_steps_left : (moves : Bool) (last count : ℕ) → last - steps_if moves (count - 1 - (count - 1)) ≡ last
no_steps_left true last count = omega arith
no_steps_left false last count = omega arith

-- the ranges of all cells have the whole rectangle
whole_prec : (edge : EdgeValue) → part_of_prec edge 0 (run_length edge - 1) ≡ edge.prec
whole_prec edge =
    let axis = axis_of edge.dep in
    let head : first_along axis edge 0 ≡ along axis edge.prec.head = no_steps (head_moves edge.pattern) (along axis edge.prec.head) in
    let tail : last_along axis edge (run_length edge - 1) ≡ along axis edge.prec.tail =
    no_steps_left (tail_moves edge.pattern) (along axis edge.prec.tail) (run_length edge) in
    rw (head, tail, cell_again axis edge.prec.head, cell_again axis edge.prec.tail) refl

all_asked : (edge : EdgeValue) → IsEdge edge → AreMeant (run_length edge) (IsAsked edge edge.dep) (record { from = 0; to = run_length edge - 1 })
all_asked edge is =
    let run = ordered (axis_of edge.dep) edge.dep is.dep.ordered in
    let line = run.line in
    record {
      ordered = omega arith;
      within = omega (arith, line);
      meant = λ index within. (
        λ _. (run_has_ranges edge is (run_cell edge index)).1 (range_at edge index, record { index = index; within = within; cell_is = refl; range_is = refl }),
        λ _. (omega arith, omega (arith, within)),
      );
    }

pub rectangle_has : (edge : EdgeValue) → IsEdge edge → (cell : Position) → IsIn cell edge.prec
    ↔ ((from : Position) × (range : Corners) × IsPair edge range from × IsIn cell range)
rectangle_has edge is cell =
    let covers = referred_covers edge is edge.dep (record { from = 0; to = run_length edge - 1 }) (all_asked edge is) cell in (
      λ inside.
          let referred = covers.0 (subst (λ (r : Corners). IsIn cell r) (sym (whole_prec edge)) inside) in
          (referred.from, referred.range, referred.pair, referred.inside),
      λ has.
          let (from, range, pair, inside) = has in
          let asked = (run_has_ranges edge is from).1 (range, pair) in
          subst (λ (r : Corners). IsIn cell r) (whole_prec edge)
          (covers.1 (record { from = from; range = range; asked = asked; pair = pair; inside = inside })),
    )

pub run_asked : (edge : EdgeValue) → IsEdge edge → (query : Corners) → ((cell : Position) × IsReferred edge query cell) ↔ Overlap query edge.dep
run_asked edge is query = (
  λ has.
      let referred = has.1 in
      (referred.from, record { first = referred.asked; second = (run_has_ranges edge is referred.from).1 (referred.range, referred.pair) }),
  λ shared.
      let (from, both) = shared in
      let (range, pair) = (run_has_ranges edge is from).0 both.second in
      let order = pair_ordered edge is range from pair in
      let inside : IsIn range.head range = record { row_from = omega arith; row_to = order.rows; col_from = omega arith; col_to = order.cols } in
      (range.head, record { from = from; range = range; asked = both.first; pair = pair; inside = inside }),
)

-- a query asks for a cell of the run exactly where it shares one with it
pub asked_overlap : (edge : EdgeValue) → IsEdge edge → (query : Corners) (indices : Indices)
    → AreMeant (run_length edge) (IsAsked edge query) indices → Overlap query edge.dep
asked_overlap edge is query indices meant =
    let order = meant.ordered in
    let below = meant.within in
    let within : indices.from < run_length edge = omega (arith, order, below) in
    let pair : IsPair edge (range_at edge indices.from) (run_cell edge indices.from) =
    record { index = indices.from; within = within; cell_is = refl; range_is = refl } in (
      run_cell edge indices.from,
      record {
        first = (meant.meant indices.from within).0 (omega arith, order);
        second = (run_has_ranges edge is (run_cell edge indices.from)).1 (range_at edge indices.from, pair);
      },
    )

pub none_asked : (edge : EdgeValue) → IsEdge edge → (query : Corners) → ((index : ℕ) → index < run_length edge
    → ¬ IsAsked edge query index) → ¬ Overlap query edge.dep
none_asked edge is query none shared =
    let (cell, both) = shared in
    let (range, pair) = (run_has_ranges edge is cell).0 both.second in
    none pair.index pair.within (subst (λ (c : Position). IsIn c query) pair.cell_is both.first)

-- and hits a range exactly where it shares a cell with the rectangle
pub hit_overlap : (edge : EdgeValue) → IsEdge edge → (query : Corners) (indices : Indices)
    → AreMeant (run_length edge) (IsHit edge query) indices → Overlap edge.prec query
hit_overlap edge is query indices meant =
    let order = meant.ordered in
    let below = meant.within in
    let within : indices.from < run_length edge = omega (arith, order, below) in
    let (cell, both) = (meant.meant indices.from within).0 (omega arith, order) in
    let pair : IsPair edge (range_at edge indices.from) (run_cell edge indices.from) =
    record { index = indices.from; within = within; cell_is = refl; range_is = refl } in
    (cell, record { first = (rectangle_has edge is cell).1 (run_cell edge indices.from, range_at edge indices.from, pair, both.first); second = both.second })

pub none_hit : (edge : EdgeValue) → IsEdge edge → (query : Corners) → ((index : ℕ) → index < run_length edge
    → ¬ IsHit edge query index) → ¬ Overlap edge.prec query
none_hit edge is query none shared =
    let (cell, both) = shared in
    let (from, range, pair, inside) = (rectangle_has edge is cell).0 both.first in
    none pair.index pair.within (subst (λ (r : Corners). Overlap r query) pair.range_is (cell, record { first = inside; second = both.second }))

pub single_pair : (cell at : Position) (range other : Corners) → IsPair (single_edge cell range) other at ↔ ((other ≡ range) × (at ≡ cell))
single_pair cell at range other =
    let edge : EdgeValue = single_edge cell range in
    let axis = axis_of edge.dep in
    let one = count_one axis edge.dep refl in
    let whole = single_range axis edge refl in
    let first = first_cell axis edge.dep in (
      λ pair.
          let within = pair.within in
          let start : pair.index ≡ 0 = omega (arith, within, one) in
          (pair.range_is ∙ ap (range_at edge) start ∙ whole, pair.cell_is ∙ ap (run_cell edge) start ∙ first),
      λ both. record { index = 0; within = omega (arith, one); cell_is = both.1 ∙ sym first; range_is = both.0 ∙ sym whole },
    )
