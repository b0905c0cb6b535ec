-- The ranges of neighbouring cells leave no gap between them, so that together they are one range.
use Rattle.std.proofs.Common.{◌≡◌, ℕ, ◌+◌, ◌-◌, ◌≤◌, ◌<◌, inl, inr, arith, refl, subst}
use Rattle.std.proofs.lemmas.Bool.{cases_lt}
use Rattle.std.specs.Prelude.{◌↔◌}
use Rattle.sheet_refs.specs.Cells.{Position, Corners, IsIn}
use Rattle.edge_patterns.specs.declared.axis.Axis.{Axis}
use Rattle.edge_patterns.specs.declared.edge.Pattern.{Pattern}
use Rattle.edge_patterns.specs.declared.edge.Pattern.TheVariants.{Single, Rr, Rf, Fr, Ff, Chain}
use Rattle.edge_patterns.specs.declared.queries.Indices.{Indices}
use Rattle.edge_patterns.specs.Axes.{along, axis_of, count_along}
use Rattle.edge_patterns.specs.Edges.{EdgeValue, IsEdge, IsShapeOf, run_length, run_cell, range_at, first_along, last_along, part_of_prec}
use Rattle.edge_patterns.specs.Indices.{AreMeant, IsAsked}
use Rattle.edge_patterns.specs.Queries.{IsReferred}
use Rattle.edge_patterns.proofs.Crossings.{lies, is_in, ordered}
use Rattle.edge_patterns.proofs.EdgeLemmas.{spans}
use Rattle.edge_patterns.proofs.QueryLemmas.{cuts}

-- between the first index and the last, ranges begin no earlier than the first one and end no later than the last one
begins_later : (axis : Axis) (pattern : Pattern) (edge : EdgeValue) → edge.pattern ≡ pattern → (from index : ℕ)
    → from ≤ index → first_along axis edge from ≤ first_along axis edge index
begins_later axis Single edge is from index later = rw is (omega arith)
begins_later axis Rr edge is from index later = rw is (omega arith)
begins_later axis Rf edge is from index later = rw is (omega arith)
begins_later axis Fr edge is from index later = rw is (omega arith)
begins_later axis Ff edge is from index later = rw is (omega arith)
begins_later axis Chain edge is from index later = rw is (omega arith)

ends_earlier : (axis : Axis) (pattern : Pattern) (edge : EdgeValue) → edge.pattern ≡ pattern → (index to : ℕ)
    → index ≤ to → last_along axis edge index ≤ last_along axis edge to
ends_earlier axis Single edge is index to earlier = rw is (omega arith)
ends_earlier axis Rr edge is index to earlier = rw is (omega arith)
ends_earlier axis Rf edge is index to earlier = rw is (omega arith)
ends_earlier axis Fr edge is index to earlier = rw is (omega arith)
ends_earlier axis Ff edge is index to earlier = rw is (omega arith)
ends_earlier axis Chain edge is index to earlier = rw is (omega arith)

-- a index whose range holds a coordinate
abbrev Holds : Axis → EdgeValue → ℕ → ℕ → Type 0
Holds axis edge coordinate index = (first_along axis edge index ≤ coordinate) × (coordinate ≤ last_along axis edge index)

-- past the end of the first range, the range that ends at the coordinate holds it
ends_at : (axis : Axis) (pattern : Pattern) (edge : EdgeValue) → edge.pattern ≡ pattern → IsShapeOf axis pattern edge
    → along axis edge.prec.head ≤ along axis edge.prec.tail → (from to coordinate : ℕ) → from ≤ to
    → to < count_along axis edge.dep → last_along axis edge from < coordinate → coordinate ≤ last_along axis edge to
    → (from + (coordinate - last_along axis edge from) ≤ to)
    × Holds axis edge coordinate (from + (coordinate - last_along axis edge from))
ends_at axis Single edge is shape line from to coordinate begins within past ends =
    let e : last_along axis edge from ≡ last_along axis edge to = rw is refl in absurd (omega (arith, e, past, ends))
ends_at axis Rf edge is shape line from to coordinate begins within past ends =
    let e : last_along axis edge from ≡ last_along axis edge to = rw is refl in absurd (omega (arith, e, past, ends))
ends_at axis Ff edge is shape line from to coordinate begins within past ends =
    let e : last_along axis edge from ≡ last_along axis edge to = rw is refl in absurd (omega (arith, e, past, ends))
ends_at axis Rr edge is shape line from to coordinate begins within past ends =
    let fits = shape.0.fits in
    let past_at = rw is at past in
    let ends_to = rw is at ends in
    rw is (omega (arith, fits, past_at, ends_to), (omega (arith, fits, past_at, ends_to), omega (arith, fits, past_at, ends_to)))
ends_at axis Fr edge is shape line from to coordinate begins within past ends =
    let fits = shape.fits in
    let past_at = rw is at past in
    let ends_to = rw is at ends in
    rw is (omega (arith, fits, past_at, ends_to), (omega (arith, fits, past_at, ends_to), omega (arith, fits, past_at, ends_to)))
ends_at axis Chain edge is shape line from to coordinate begins within past ends =
    let fits = shape.0.fits in
    let past_at = rw is at past in
    let ends_to = rw is at ends in
    rw is (omega (arith, fits, past_at, ends_to), (omega (arith, fits, past_at, ends_to), omega (arith, fits, past_at, ends_to)))

-- each coordinate from the start of the first range to the end of the last one is in some range between
held : (axis : Axis) (edge : EdgeValue) → IsShapeOf axis edge.pattern edge
    → along axis edge.prec.head ≤ along axis edge.prec.tail → (from to coordinate : ℕ) → from ≤ to
    → to < count_along axis edge.dep → first_along axis edge from ≤ coordinate → coordinate ≤ last_along axis edge to
    → (index : ℕ) × (from ≤ index) × (index ≤ to) × Holds axis edge coordinate index
held axis edge shape line from to coordinate ordered_indices within begins ends =
    elim (cases_lt (last_along axis edge from) coordinate) [
      | inl past ↦
          let at = ends_at axis edge.pattern edge refl shape line from to coordinate ordered_indices within past ends in
          (from + (coordinate - last_along axis edge from), omega arith, at.0, at.1)
      | inr early ↦ (from, omega arith, ordered_indices, (begins, early))
    ]

pub referred_covers : (edge : EdgeValue) → IsEdge edge → (query : Corners) (indices : Indices)
    → AreMeant (run_length edge) (IsAsked edge query) indices → (cell : Position)
    → IsIn cell (part_of_prec edge indices.from indices.to) ↔ IsReferred edge query cell
referred_covers edge is query indices meant cell =
    let axis = axis_of edge.dep in
    let prec = ordered axis edge.prec is.prec.ordered in
    let at = cuts axis edge.prec (first_along axis edge indices.from) (last_along axis edge indices.to) in (
      λ inside.
          let in_part = lies axis cell _ inside in
          let begins = rw at.head at in_part.from in
          let ends = rw at.tail at in_part.to in
          let (index, from, to, holds) = held axis edge is.shape prec.line indices.from indices.to (along axis cell) meant.ordered meant.within begins ends in
          let within : index < run_length edge = omega (arith, to, meant.within) in
          let range = spans axis edge index in
          record {
            from = run_cell edge index;
            range = range_at edge index;
            asked = (meant.meant index within).0 (from, to);
            pair = record { index = index; within = within; cell_is = refl; range_is = refl };
            inside = is_in axis cell (range_at edge index) (record {
              from = rw range.head holds.0;
              to = rw range.tail holds.1;
              left = rw range.left (rw at.left at in_part.left);
              right = rw range.right (rw at.right at in_part.right);
            });
          },
      λ referred.
          let index = referred.pair.index in
          let (from, to) = (meant.meant index referred.pair.within).1 (subst (λ (c : Position). IsIn c query) referred.pair.cell_is referred.asked) in
          let range = spans axis edge index in
          let in_range = lies axis cell (range_at edge index) (subst (λ (r : Corners). IsIn cell r) referred.pair.range_is referred.inside) in
          let begins = rw range.head at in_range.from in
          let ends = rw range.tail at in_range.to in
          let later = begins_later axis edge.pattern edge refl indices.from index from in
          let earlier = ends_earlier axis edge.pattern edge refl index indices.to to in
          is_in axis cell (part_of_prec edge indices.from indices.to) (record {
            from = rw at.head (omega (arith, begins, later));
            to = rw at.tail (omega (arith, ends, earlier));
            left = rw at.left (rw range.left at in_range.left);
            right = rw at.right (rw range.right at in_range.right);
          }),
    )
