use Rattle.std.proofs.Common.{◌≡◌, ◌+◌, ◌<◌, length, ◌∷◌, ◌∙◌, ap, sym, map, take, drop, [], arith, refl}
use Rattle.std.proofs.lemmas.Result.{err_from_is_err_and}
use Rattle.sheet_refs.specs.Cells.{Corners, cells_of}
use Rattle.sheet_refs.proofs.Places.{comes_to_head, comes_to_next}
use Rattle.formula_eval.specs.declared.items.Item.TheVariants.{Cell}
use Rattle.formula_eval.specs.Functions.{contributions}
use Rattle.formula_eval.specs.Inputs.{seen_values}
use Rattle.formula_eval.specs.Items.{items_of_cells}
use Rattle.formula_eval.specs.Views.{looked}
use Rattle.formula_eval.proofs.ViewLemmas.{looked_empty, view_at}
use Rattle.formula_eval.proofs.ClipLemmas.{part_shows, past_shows, items_step, items_split, items_length}
use Rattle.formula_eval.proofs.NodeLemmas.{take-all}
use Rattle.formula_eval.proofs.TallyLemmas.{adds_nothing, adds_same, adds_both, append_err, first_err}
use Rattle.formula_eval.proofs.cells.add_seen.Goals as goal

pub returns-in_default-clause-ok : goal.returns-in_default-clause-ok
returns-in_default-clause-ok g c =
    let sizes = g.I.Inputs.sizes c.args.inputs.now in
    let codes = g.I.Inputs.codes c.args.inputs.now in
    let outside = rw (c.sizes.ensures, c.in_default.is) at c.clip.ensures.nothing in
    let nothing = ap (map Cell) (past_shows sizes (looked c.args.view.now (seen_values sizes codes)) c.args.range
    (looked_empty sizes codes c.args.view.now) (outside refl)) in
    adds_same c.args.function c.args.tally.now c.args.tally.now [] _ nothing (adds_nothing c.args.function c.args.tally.now c.requires.bounded)

pub look-value-requires-clause-view : goal.look-value-requires-clause-view
look-value-requires-clause-view g c =
    let among = (c.in-Some.ensures.cells c.loop-place.cell).0 c.loop-place.invariant.1.inside in
    view_at (g.I.Inputs.sizes c.args.inputs.now) (g.I.Inputs.codes c.args.inputs.now) c.args.range c.args.view.now c.loop-place.cell c.requires.view among.0

pub add_cell-requires-clause-room : goal.add_cell-requires-clause-room
add_cell-requires-clause-room g c =
    let h = looked c.args.view.now (seen_values (g.I.Inputs.sizes c.args.inputs.now) (g.I.Inputs.codes c.args.inputs.now)) in
    omega (
      arith,
      c.loop-place.invariant.0.count,
      items_length h (cells_of c.in-Some.part) c.loop-place._place,
      c.cells-place-end.ensures.small,
      c.requires.room,
    )

pub loop-place-init : goal.loop-place-init
loop-place-init g c =
    (adds_nothing c.args.function c.args.tally.now c.requires.bounded, rw c.head-cell.ensures.head (comes_to_head c.in-Some.part c.head-cell.ensures.ordered))

pub loop-place-preserved : goal.loop-place-preserved
loop-place-preserved g c =
    let h = looked c.args.view.now (seen_values (g.I.Inputs.sizes c.args.inputs.now) (g.I.Inputs.codes c.args.inputs.now)) in
    let below : c.loop-place._place < length (cells_of c.in-Some.part) = omega (arith, c.loop-place-test.true, c.cells-place-end.ensures.count) in
    let next = comes_to_next c.in-Some.part c.loop-place._place c.loop-place.cell c.cell_behind-cell.result
    c.loop-place.invariant.1 below c.cell_behind-cell.ensures.next c.cell_behind-cell.ensures.inside in
    let step = items_step h (cells_of c.in-Some.part) c.loop-place._place c.loop-place.cell c.look-value.result
    (c.loop-place.invariant.1.listed below) c.look-value.ensures in
    let adds = adds_both c.args.function c.args.tally.now c.loop-place.tally c.add_cell.new.tally _ _ c.loop-place.invariant.0 c.in_ok-add_cell.ensures.ok in
    (adds_same c.args.function c.args.tally.now c.add_cell.new.tally _ _ step adds, next)

pub returns-in_err-add_cell-clause-err : goal.returns-in_err-add_cell-clause-err
returns-in_err-add_cell-clause-err g c =
    let p = err_from_is_err_and c.from_residual.result c.from_residual.ensures.1 in
    let sizes = g.I.Inputs.sizes c.args.inputs.now in
    let codes = g.I.Inputs.codes c.args.inputs.now in
    let h = looked c.args.view.now (seen_values sizes codes) in
    let f = c.args.function in
    let cells = cells_of c.in-Some.part in
    let k = c.loop-place._place in
    let corners = rw c.sizes.ensures at c.in-Some.ensures.corners in
    let inside = rw c.sizes.ensures at (c.in-Some.ensures.some.0 refl) in
    let same : items_of_cells (map h (cells_of c.args.range)) ≡ items_of_cells (map h cells) =
    ap (map Cell) (part_shows sizes h c.args.range (looked_empty sizes codes c.args.view.now) inside)
    ∙ ap (λ (part : Corners). items_of_cells (map h (cells_of part))) (sym corners) in
    let split = items_split h cells k c.loop-place.cell c.look-value.result
    (c.loop-place.invariant.1.listed (omega (arith, c.loop-place-test.true, c.cells-place-end.ensures.count)))
    c.look-value.ensures in
    let here = first_err f (items_of_cells (c.look-value.result ∷ [])) (items_of_cells (map h (drop (k + 1) cells)))
    c.in_err-add_cell.field-0.0 c.in_err-add_cell.ensures.err in
    let all = append_err f (items_of_cells (map h (take k cells))) _ c.loop-place.invariant.0.numbers
    c.in_err-add_cell.field-0.0 c.loop-place.invariant.0.given here in
    rw (p.1, p.2) (ap (contributions f) (same ∙ split) ∙ all)

pub returns-clause-ok : goal.returns-clause-ok
returns-clause-ok g c =
    let sizes = g.I.Inputs.sizes c.args.inputs.now in
    let codes = g.I.Inputs.codes c.args.inputs.now in
    let h = looked c.args.view.now (seen_values sizes codes) in
    let cells = cells_of c.in-Some.part in
    let corners = rw c.sizes.ensures at c.in-Some.ensures.corners in
    let inside = rw c.sizes.ensures at (c.in-Some.ensures.some.0 refl) in
    let same : items_of_cells (map h (cells_of c.args.range)) ≡ items_of_cells (map h cells) =
    ap (map Cell) (part_shows sizes h c.args.range (looked_empty sizes codes c.args.view.now) inside)
    ∙ ap (λ (part : Corners). items_of_cells (map h (cells_of part))) (sym corners) in
    let whole = take-all cells c.loop-place._place (omega (arith, c.cells-place-end.ensures.count)) in
    adds_same c.args.function c.args.tally.now c.loop-place.tally _ _ same (rw whole at c.loop-place.invariant.0)

pub returns-clause-few : goal.returns-clause-few
returns-clause-few g c =
    let h = looked c.args.view.now (seen_values (g.I.Inputs.sizes c.args.inputs.now) (g.I.Inputs.codes c.args.inputs.now)) in
    omega (arith, c.loop-place.invariant.0.count, items_length h (cells_of c.in-Some.part) c.loop-place._place, c.cells-place-end.ensures.small)
