-- The cells that the queries cover, by their numbers in the run.
use Rattle.std.proofs.Common.{◌≡◌, ℕ, ◌+◌, ◌-◌, ◌≤◌, ◌<◌, arith, refl, sym, ◌∙◌, ap, subst}
use Rattle.std.specs.Prelude.{◌↔◌}
use Rattle.sheet_refs.specs.Cells.{Position, Corners, IsIn}
use Rattle.sheet_refs.specs.Rectangles.{Overlap}
use Rattle.edge_patterns.specs.declared.axis.Axis.{Axis}
use Rattle.edge_patterns.specs.declared.axis.Axis.TheVariants.{Down, Right}
use Rattle.edge_patterns.specs.declared.queries.Indices.{Indices}
use Rattle.edge_patterns.specs.Axes.{along, across, position_at, slice_of, IsLine, axis_of}
use Rattle.edge_patterns.specs.Edges.{EdgeValue, IsEdge, run_length, run_cell, range_at, part_of_run}
use Rattle.edge_patterns.specs.Indices.{AreMeant, IsHit, IsAsked}
use Rattle.edge_patterns.specs.Queries.{IsDirect, IsSpreadTo, IsReferred, IsLedTo}
use Rattle.edge_patterns.specs.Queries.IsSpreadTo.{at_once as reach_at_once, onward as reach_onward}
use Rattle.edge_patterns.specs.Queries.IsLedTo.{at_once as led_at_once, onward as led_onward}
use Rattle.edge_patterns.proofs.Crossings.{lies, is_in, along_of, across_of, cell_again}

-- the corners of a slice, by coordinates
pub record Cuts (axis : Axis) (range : Corners) (first last : ℕ) (slice : Corners) : Type 0 where
  pub head : along axis slice.head ≡ first
  pub tail : along axis slice.tail ≡ last
  pub left : across axis slice.head ≡ across axis range.head
  pub right : across axis slice.tail ≡ across axis range.tail

pub cuts : (axis : Axis) (range : Corners) (first last : ℕ) → Cuts axis range first last (slice_of axis range first last)
cuts Down range first last = record { head = refl; tail = refl; left = refl; right = refl }
cuts Right range first last = record { head = refl; tail = refl; left = refl; right = refl }

-- a cell between two coordinates of a line is the one at its own coordinate
pub on_line : (axis : Axis) (range : Corners) (first last : ℕ) (cell : Position) → IsLine axis range
    → IsIn cell (slice_of axis range first last) → (first ≤ along axis cell) × (along axis cell ≤ last)
    × (cell ≡ position_at axis (along axis cell) (across axis range.head))
on_line axis range first last cell line inside =
    let at = cuts axis range first last in
    let is = lies axis cell (slice_of axis range first last) inside in
    let from = rw at.head at is.from in
    let to = rw at.tail at is.to in
    let left = rw at.left at is.left in
    let right = rw at.right at is.right in
    let same : across axis cell ≡ across axis range.head = omega (arith, left, right, line) in
    (from, to, rw (← same) (sym (cell_again axis cell)))

pub in_line : (axis : Axis) (range : Corners) (first last coordinate : ℕ) → IsLine axis range → first ≤ coordinate
    → coordinate ≤ last → IsIn (position_at axis coordinate (across axis range.head)) (slice_of axis range first last)
in_line axis range first last coordinate line from to =
    let at = cuts axis range first last in
    let along_is = along_of axis coordinate (across axis range.head) in
    let across_is = across_of axis coordinate (across axis range.head) in
    is_in axis _ (slice_of axis range first last) (record {
      from = rw (at.head, along_is) from;
      to = rw (at.tail, along_is) to;
      left = rw (at.left, across_is) (omega arith);
      right = rw (at.right, across_is) (omega (arith, line));
    })

-- the cells of a part of a run, by their numbers
pub cells_in : (edge : EdgeValue) → IsEdge edge → (from to : ℕ) (cell : Position) → IsIn cell (part_of_run edge from to)
    → (index : ℕ) × (from ≤ index) × (index ≤ to) × (cell ≡ run_cell edge index)
cells_in edge is from to cell inside =
    let axis = axis_of edge.dep in
    let head = along axis edge.dep.head in
    let at = on_line axis edge.dep (head + from) (head + to) cell is.line inside in
    let begins = at.0 in
    let ends = at.1 in
    let same : along axis cell ≡ head + (along axis cell - head) = omega (arith, begins) in (
      along axis cell - head,
      omega (arith, begins),
      omega (arith, ends),
      at.2
          ∙ ap (λ (coordinate : ℕ). position_at axis coordinate (across axis edge.dep.head)) same,
    )

pub cell_in : (edge : EdgeValue) → IsEdge edge → (from to index : ℕ) → from ≤ index → index ≤ to → IsIn (run_cell edge index) (part_of_run edge from to)
cell_in edge is from to index begins ends =
    let axis = axis_of edge.dep in
    let head = along axis edge.dep.head in
    in_line axis edge.dep (head + from) (head + to) (head + index) is.line (omega (arith, begins)) (omega (arith, ends))

-- the cells with a range that overlaps the query are those whose numbers are hit
pub direct_index : (edge : EdgeValue) (query : Corners) (cell : Position) → IsDirect edge query cell → (index : ℕ)
    × (index < run_length edge) × (cell ≡ run_cell edge index) × IsHit edge query index
direct_index edge query cell direct =
    (direct.pair.index, direct.pair.within, direct.pair.cell_is, subst (λ (range : Corners). Overlap range query) direct.pair.range_is direct.overlaps)

pub hit_direct : (edge : EdgeValue) (query : Corners) (index : ℕ) → index < run_length edge → IsHit edge query index → IsDirect edge query (run_cell edge index)
hit_direct edge query index within hit =
    record { range = range_at edge index; pair = record { index = index; within = within; cell_is = refl; range_is = refl }; overlaps = hit }

pub direct_covers : (edge : EdgeValue) → IsEdge edge → (query : Corners) (indices : Indices)
    → AreMeant (run_length edge) (IsHit edge query) indices → (cell : Position)
    → IsIn cell (part_of_run edge indices.from indices.to) ↔ IsDirect edge query cell
direct_covers edge is query indices meant cell = (
  λ inside.
      let (index, from, to, same) = cells_in edge is indices.from indices.to cell inside in
      let within : index < run_length edge = omega (arith, to, meant.within) in
      subst (λ (c : Position). IsDirect edge query c) (sym same) (hit_direct edge query index within ((meant.meant index within).0 (from, to))),
  λ direct.
      let (index, within, same, hit) = direct_index edge query cell direct in
      let (from, to) = (meant.meant index within).1 hit in
      subst (λ (c : Position). IsIn c (part_of_run edge indices.from indices.to)) (sym same) (cell_in edge is indices.from indices.to index from to),
)

pub no_direct : (edge : EdgeValue) (query : Corners) → ((index : ℕ) → index < run_length edge
    → ¬ IsHit edge query index) → (cell : Position) → ¬ IsDirect edge query cell
no_direct edge query none cell direct =
    let (index, within, same, hit) = direct_index edge query cell direct in
    none index within hit

-- nothing is reached where nothing is hit
pub no_reached : (edge : EdgeValue) (query : Corners) → ((index : ℕ) → index < run_length edge
    → ¬ IsHit edge query index) → (cell : Position) → ¬ IsSpreadTo edge query cell
no_reached edge query none cell (reach_at_once _ direct) = no_direct edge query none cell direct
no_reached edge query none cell (reach_onward from _ range before pair inside) = no_reached edge query none from before

pub no_referred : (edge : EdgeValue) (query : Corners) → ((index : ℕ) → index < run_length edge
    → ¬ IsAsked edge query index) → (cell : Position) → ¬ IsReferred edge query cell
no_referred edge query none cell referred =
    none referred.pair.index referred.pair.within (subst (λ (c : Position). IsIn c query) referred.pair.cell_is referred.asked)

pub no_led : (edge : EdgeValue) (query : Corners) → ((index : ℕ) → index < run_length edge → ¬ IsAsked edge query index)
    → (cell : Position) → ¬ IsLedTo edge query cell
no_led edge query none cell (led_at_once _ referred) = no_referred edge query none cell referred
no_led edge query none cell (led_onward from _ range before pair inside) = no_led edge query none from before
