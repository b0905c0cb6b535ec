-- Chains: each cell refers to its neighbour in the line, so that the edge's own pairs lead from cell to cell.
use Rattle.std.proofs.Common.{◌≡◌, ℕ, zero, suc, ◌+◌, ◌-◌, ◌≤◌, ◌<◌, ◌⊎◌, inl, inr, arith, refl, sym, ◌∙◌, ap, subst}
use Rattle.std.specs.Prelude.{◌↔◌, IsTrue, true, false}
use Rattle.sheet_refs.specs.Cells.{Position, Corners, IsIn}
use Rattle.edge_patterns.specs.declared.edge.Pattern.{Pattern}
use Rattle.edge_patterns.specs.declared.edge.Pattern.TheVariants.{Chain}
use Rattle.edge_patterns.specs.declared.queries.Indices.{Indices}
use Rattle.edge_patterns.specs.Axes.{along, across, position_at, IsLine, axis_of}
use Rattle.edge_patterns.specs.Edges.{EdgeValue, IsEdge, IsShapeOf, IsPair, run_length, run_cell, range_at, first_along, last_along, part_of_run, part_of_prec}
use Rattle.edge_patterns.specs.Indices.{AreMeant, IsHit, IsAsked}
use Rattle.edge_patterns.specs.Queries.{IsSpreadTo, IsReferred, IsLedTo}
use Rattle.edge_patterns.specs.Queries.IsSpreadTo.{at_once as reach_at_once, onward as reach_onward}
use Rattle.edge_patterns.specs.Queries.IsLedTo.{at_once as led_at_once, onward as led_onward}
use Rattle.edge_patterns.proofs.Crossings.{ordered, along_of}
use Rattle.edge_patterns.proofs.QueryLemmas.{on_line, in_line, cells_in, cell_in, direct_index, hit_direct}

-- the cell of an edge's line with this coordinate
abbrev pub point : EdgeValue → ℕ → Position
point edge coordinate = position_at (axis_of edge.dep) coordinate (across (axis_of edge.dep) edge.dep.head)

-- the first coordinates of the run and of the rectangle
abbrev pub run_head : EdgeValue → ℕ
run_head edge = along (axis_of edge.dep) edge.dep.head

abbrev pub prec_head : EdgeValue → ℕ
prec_head edge = along (axis_of edge.dep) edge.prec.head

point_along : (edge : EdgeValue) (a b : ℕ) → point edge a ≡ point edge b → a ≡ b
point_along edge a b same =
    let axis = axis_of edge.dep in
    let index = across axis edge.dep.head in
    sym (along_of axis a index) ∙ ap (along axis) same ∙ along_of axis b index

-- what a chain's rectangle is
pub record IsChain (edge : EdgeValue) : Type 0 where
  pub pattern : edge.pattern ≡ Chain
  pub line : across (axis_of edge.dep) edge.prec.head ≡ across (axis_of edge.dep) edge.dep.head
  pub thin : IsLine (axis_of edge.dep) edge.prec
  pub last : along (axis_of edge.dep) edge.prec.tail ≡ prec_head edge + (run_length edge - 1)
  pub beside : (prec_head edge ≡ run_head edge + 1) ⊎ (prec_head edge + 1 ≡ run_head edge)
  pub some : 0 < run_length edge

pub is_chain : (edge : EdgeValue) → IsEdge edge → edge.pattern ≡ Chain → IsChain edge
is_chain edge is same =
    let axis = axis_of edge.dep in
    let shape = subst (λ (pattern : Pattern). IsShapeOf axis pattern edge) same is.shape in
    let beside = shape.1 in
    let several = shape.0.several in
    let run = ordered axis edge.dep is.dep.ordered in
    record {
      pattern = same;
      line = beside.head;
      thin = beside.head ∙ is.line ∙ sym beside.tail;
      last = ends beside.moved (omega (arith, run.line));
      beside = moved beside.moved;
      some = omega (arith, several);
    }
  where
    ends : ((along (axis_of edge.dep) edge.prec.head ≡ along (axis_of edge.dep) edge.dep.head + 1)
        × (along (axis_of edge.dep) edge.prec.tail ≡ along (axis_of edge.dep) edge.dep.tail + 1))
        ⊎ ((along (axis_of edge.dep) edge.prec.head + 1 ≡ along (axis_of edge.dep) edge.dep.head)
        × (along (axis_of edge.dep) edge.prec.tail + 1 ≡ along (axis_of edge.dep) edge.dep.tail))
        → along (axis_of edge.dep) edge.dep.head ≤ along (axis_of edge.dep) edge.dep.tail
        → along (axis_of edge.dep) edge.prec.tail ≡ along (axis_of edge.dep) edge.prec.head + (run_length edge - 1)
    ends (inl after) run = omega (arith, after.0, after.1, run)
    ends (inr before) run = omega (arith, before.0, before.1, run)

    moved : ((along (axis_of edge.dep) edge.prec.head ≡ along (axis_of edge.dep) edge.dep.head + 1)
        × (along (axis_of edge.dep) edge.prec.tail ≡ along (axis_of edge.dep) edge.dep.tail + 1))
        ⊎ ((along (axis_of edge.dep) edge.prec.head + 1 ≡ along (axis_of edge.dep) edge.dep.head)
        × (along (axis_of edge.dep) edge.prec.tail + 1 ≡ along (axis_of edge.dep) edge.dep.tail))
        → (prec_head edge ≡ run_head edge + 1) ⊎ (prec_head edge + 1 ≡ run_head edge)
    moved (inl after) = inl after.0
    moved (inr before) = inr before.0

module _ (edge : EdgeValue) (chain : IsChain edge) where
  -- the ends of a chain's range are one
  first_is : (index : ℕ) → first_along (axis_of edge.dep) edge index ≡ prec_head edge + index
  first_is index = rw chain.pattern refl

  last_is : (index : ℕ) → index < run_length edge → last_along (axis_of edge.dep) edge index ≡ prec_head edge + index
  last_is index within = rw (chain.pattern, chain.last) (omega (arith, within))

  -- a part of the rectangle has the points between its ends
  ranges_in : (from to : ℕ) (cell : Position) → to < run_length edge → IsIn cell (part_of_prec edge from to)
      → (index : ℕ) × (from ≤ index) × (index ≤ to) × (cell ≡ point edge (prec_head edge + index))
  ranges_in from to cell within inside =
      let axis = axis_of edge.dep in
      let (begins, ends, same) = on_line axis edge.prec _ _ cell chain.thin inside in
      let begins_at = rw (first_is from) at begins in
      let ends_at = rw (last_is to within) at ends in
      let coordinate : along axis cell ≡ prec_head edge + (along axis cell - prec_head edge) = omega (arith, begins_at) in
      let on : cell ≡ point edge (along axis cell) = rw chain.line at same in
      (along axis cell - prec_head edge, omega (arith, begins_at), omega (arith, ends_at), on ∙ ap (point edge) coordinate)

  in_ranges : (from to index : ℕ) → to < run_length edge → from ≤ index → index ≤ to → IsIn (point edge (prec_head edge + index)) (part_of_prec edge from to)
  in_ranges from to index within begins ends =
      let axis = axis_of edge.dep in
      let inside = in_line axis edge.prec (first_along axis edge from) (last_along axis edge to)
      (prec_head edge + index) chain.thin (rw (first_is from) (omega (arith, begins)))
      (rw (last_is to within) (omega (arith, ends))) in
      subst (λ (index_across : ℕ). IsIn (position_at axis (prec_head edge + index) index_across) (part_of_prec edge from to)) chain.line inside

  -- the one cell of a cell's range
  range_in : (index : ℕ) (cell : Position) → index < run_length edge → IsIn cell (range_at edge index) → cell ≡ point edge (prec_head edge + index)
  range_in index cell within inside =
      let (at, begins, ends, same) = ranges_in index index cell within inside in
      let here : at ≡ index = omega (arith, begins, ends) in
      same ∙ ap (λ (k : ℕ). point edge (prec_head edge + k)) here

  in_range : (index : ℕ) → index < run_length edge → IsIn (point edge (prec_head edge + index)) (range_at edge index)
  in_range index within = in_ranges index index index within (omega arith) (omega arith)

  pair_at : (index : ℕ) → index < run_length edge → IsPair edge (range_at edge index) (run_cell edge index)
  pair_at index within = record { index = index; within = within; cell_is = refl; range_is = refl }

  -- what a step tells: the cell it comes from is the one cell of the range
  step_in : (range : Corners) (cell from : Position) (pair : IsPair edge range cell) → IsIn from range → from ≡ point edge (prec_head edge + pair.index)
  step_in range cell from pair inside =
      range_in pair.index from pair.within (subst (λ (r : Corners). IsIn from r) pair.range_is inside)

  -- where each cell refers to the one before it, the run is reached from the first hit index on
  module _ (query : Corners) (indices : Indices) (meant : AreMeant (run_length edge) (IsHit edge query) indices) where
    module _ (before : prec_head edge + 1 ≡ run_head edge) where
      onward_in : (cell : Position) → IsSpreadTo edge query cell → (index : ℕ) × (indices.from ≤ index)
          × (index < run_length edge) × (cell ≡ run_cell edge index)
      onward_in cell (reach_at_once _ direct) =
          let (index, within, same, hit) = direct_index edge query cell direct in
          (index, ((meant.meant index within).1 hit).0, within, same)
      onward_in cell (reach_onward from _ range came pair inside) =
          let (index, begins, within, same) = onward_in from came in
          let step = point_along edge (run_head edge + index) (prec_head edge + pair.index) (sym same ∙ step_in range cell from pair inside) in
          (pair.index, omega (arith, step, begins, before), pair.within, pair.cell_is)

      onward_from : (count : ℕ) → indices.from + count < run_length edge → IsSpreadTo edge query (run_cell edge (indices.from + count))
      onward_from zero within =
          let at : indices.from + 0 ≡ indices.from = omega arith in
          rw at
          (reach_at_once _ (hit_direct edge query indices.from (omega (arith, within))
          ((meant.meant indices.from (omega (arith, within))).0 (omega arith, meant.ordered))))
      onward_from (suc count) within =
          let less : indices.from + count < run_length edge = omega (arith, within) in
          let coordinate : run_head edge + (indices.from + count) ≡ prec_head edge + (indices.from + suc count) = omega (arith, before) in
          reach_onward _ _ _ (onward_from count less) (pair_at (indices.from + suc count) within) (rw coordinate (in_range (indices.from + suc count) within))

      pub reached_onward : IsEdge edge → (cell : Position) → IsIn cell (part_of_run edge indices.from (run_length edge - 1)) ↔ IsSpreadTo edge query cell
      reached_onward is cell = (
        λ inside.
            let (index, begins, ends, same) = cells_in edge is indices.from (run_length edge - 1) cell inside in
            let at : indices.from + (index - indices.from) ≡ index = omega (arith, begins) in
            rw same (rw at at (onward_from (index - indices.from) (omega (arith, begins, ends, chain.some)))),
        λ came.
            let (index, begins, within, same) = onward_in cell came in
            rw same (cell_in edge is indices.from (run_length edge - 1) index begins (omega (arith, within))),
      )

    -- where each cell refers to the one behind it, the run is reached up to the last hit index
    module _ (after : prec_head edge ≡ run_head edge + 1) where
      backward_in : (cell : Position) → IsSpreadTo edge query cell → (index : ℕ) × (index ≤ indices.to) × (cell ≡ run_cell edge index)
      backward_in cell (reach_at_once _ direct) =
          let (index, within, same, hit) = direct_index edge query cell direct in
          (index, ((meant.meant index within).1 hit).1, same)
      backward_in cell (reach_onward from _ range came pair inside) =
          let (index, ends, same) = backward_in from came in
          let step = point_along edge (run_head edge + index) (prec_head edge + pair.index) (sym same ∙ step_in range cell from pair inside) in
          (pair.index, omega (arith, step, ends, after), pair.cell_is)

      backward_from : (count index : ℕ) → index + count ≡ indices.to → IsSpreadTo edge query (run_cell edge index)
      backward_from zero index same =
          let at : index ≡ indices.to = omega (arith, same) in
          rw at (reach_at_once _ (hit_direct edge query indices.to meant.within ((meant.meant indices.to meant.within).0 (meant.ordered, omega arith))))
      backward_from (suc count) index same =
          let more : suc index + count ≡ indices.to = omega (arith, same) in
          let within : index < run_length edge = omega (arith, same, meant.within) in
          let coordinate : run_head edge + suc index ≡ prec_head edge + index = omega (arith, after) in
          reach_onward _ _ _ (backward_from count (suc index) more) (pair_at index within) (rw coordinate (in_range index within))

      pub reached_backward : IsEdge edge → (cell : Position) → IsIn cell (part_of_run edge 0 indices.to) ↔ IsSpreadTo edge query cell
      reached_backward is cell = (
        λ inside.
            let (index, begins, ends, same) = cells_in edge is 0 indices.to cell inside in
            rw same (backward_from (indices.to - index) index (omega (arith, ends))),
        λ came.
            let (index, ends, same) = backward_in cell came in
            rw same (cell_in edge is 0 indices.to index (omega arith) ends),
      )

  -- the cells of a run that are asked for, and where their ranges lead
  module _ (query : Corners) (indices : Indices) (meant : AreMeant (run_length edge) (IsAsked edge query) indices) where
    asked_index : (from : Position) (range : Corners) (pair : IsPair edge range from) → IsIn from query
        → (indices.from ≤ pair.index) × (pair.index ≤ indices.to)
    asked_index from range pair asked =
        (meant.meant pair.index pair.within).1 (subst (λ (c : Position). IsIn c query) pair.cell_is asked)

    referred_at : (index : ℕ) → index < run_length edge → indices.from ≤ index → index ≤ indices.to
        → IsReferred edge query (point edge (prec_head edge + index))
    referred_at index within begins ends =
        record {
          from = run_cell edge index;
          range = range_at edge index;
          asked = (meant.meant index within).0 (
            begins,
            ends,
          );
          pair = pair_at index within;
          inside = in_range index within;
        }

    module _ (before : prec_head edge + 1 ≡ run_head edge) where
      led_before_in : (cell : Position) → IsLedTo edge query cell → (index : ℕ) × (index ≤ indices.to) × (cell ≡ point edge (prec_head edge + index))
      led_before_in cell (led_at_once _ referred) = (
        referred.pair.index,
        (asked_index referred.from referred.range referred.pair referred.asked).1,
        step_in referred.range referred.from cell referred.pair referred.inside,
      )
      led_before_in cell (led_onward from _ range came pair inside) =
          let (index, ends, same) = led_before_in from came in
          let step = point_along edge (prec_head edge + index) (run_head edge + pair.index) (sym same ∙ pair.cell_is) in
          (pair.index, omega (arith, step, ends, before), step_in range from cell pair inside)

      led_before_from : (count index : ℕ) → index + count ≡ indices.to → IsLedTo edge query (point edge (prec_head edge + index))
      led_before_from zero index same =
          let at : index ≡ indices.to = omega (arith, same) in
          rw at (led_at_once _ (referred_at indices.to meant.within meant.ordered (omega arith)))
      led_before_from (suc count) index same =
          let more : suc index + count ≡ indices.to = omega (arith, same) in
          let within : index < run_length edge = omega (arith, same, meant.within) in
          let coordinate : prec_head edge + suc index ≡ run_head edge + index = omega (arith, before) in
          led_onward (point edge (prec_head edge + suc index)) _ _ (led_before_from count (suc index) more)
          (rw coordinate (pair_at index within)) (in_range index within)

      pub led_before : (cell : Position) → IsIn cell (part_of_prec edge 0 indices.to) ↔ IsLedTo edge query cell
      led_before cell = (
        λ inside.
            let (index, begins, ends, same) = ranges_in 0 indices.to cell meant.within inside in
            rw same (led_before_from (indices.to - index) index (omega (arith, ends))),
        λ came.
            let (index, ends, same) = led_before_in cell came in
            rw same (in_ranges 0 indices.to index meant.within (omega arith) ends),
      )

    module _ (after : prec_head edge ≡ run_head edge + 1) where
      led_after_in : (cell : Position) → IsLedTo edge query cell → (index : ℕ) × (indices.from ≤ index)
          × (index < run_length edge) × (cell ≡ point edge (prec_head edge + index))
      led_after_in cell (led_at_once _ referred) = (
        referred.pair.index,
        (asked_index referred.from referred.range referred.pair referred.asked).0,
        referred.pair.within,
        step_in referred.range referred.from cell referred.pair referred.inside,
      )
      led_after_in cell (led_onward from _ range came pair inside) =
          let (index, begins, within, same) = led_after_in from came in
          let step = point_along edge (prec_head edge + index) (run_head edge + pair.index) (sym same ∙ pair.cell_is) in
          (pair.index, omega (arith, step, begins, after), pair.within, step_in range from cell pair inside)

      led_after_from : (count : ℕ) → indices.from + count < run_length edge → IsLedTo edge query (point edge (prec_head edge + (indices.from + count)))
      led_after_from zero within =
          let at : indices.from + 0 ≡ indices.from = omega arith in
          rw at (led_at_once _ (referred_at indices.from (omega (arith, within)) (omega arith) meant.ordered))
      led_after_from (suc count) within =
          let less : indices.from + count < run_length edge = omega (arith, within) in
          let coordinate : prec_head edge + (indices.from + count) ≡ run_head edge + (indices.from + suc count) = omega (arith, after) in
          led_onward (point edge (prec_head edge + (indices.from + count))) _ _ (led_after_from count less)
          (rw coordinate (pair_at (indices.from + suc count) within)) (in_range (indices.from + suc count) within)

      pub led_after : (cell : Position) → IsIn cell (part_of_prec edge indices.from (run_length edge - 1)) ↔ IsLedTo edge query cell
      led_after cell = (
        λ inside.
            let (index, begins, ends, same) = ranges_in indices.from (run_length edge - 1) cell (omega (arith, chain.some)) inside in
            let at : indices.from + (index - indices.from) ≡ index = omega (arith, begins) in
            rw same (rw at at (led_after_from (index - indices.from) (omega (arith, begins, ends, chain.some)))),
        λ came.
            let (index, begins, within, same) = led_after_in cell came in
            rw same (in_ranges indices.from (run_length edge - 1) index (omega (arith, chain.some)) begins (omega (arith, within))),
      )

-- to which side a chain's cells refer
pub goes_before : (edge : EdgeValue) → IsChain edge → prec_head edge < run_head edge → prec_head edge + 1 ≡ run_head edge
goes_before edge chain less = either chain.beside
  where
    either : (prec_head edge ≡ run_head edge + 1) ⊎ (prec_head edge + 1 ≡ run_head edge) → prec_head edge + 1 ≡ run_head edge
    either (inl after) = omega (arith, after, less)
    either (inr before) = before

pub goes_after : (edge : EdgeValue) → IsChain edge → ¬ (prec_head edge < run_head edge) → prec_head edge ≡ run_head edge + 1
goes_after edge chain not_less = either chain.beside
  where
    either : (prec_head edge ≡ run_head edge + 1) ⊎ (prec_head edge + 1 ≡ run_head edge) → prec_head edge ≡ run_head edge + 1
    either (inl after) = after
    either (inr before) = absurd (not_less (omega (arith, before)))

-- what a test that failed has told
pub refuted : {P : Type 0} → IsTrue false ↔ P → ¬ P
refuted told holds = let wrong : false ≡ true = told.1 holds in cc
