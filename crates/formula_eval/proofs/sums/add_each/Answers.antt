use Rattle.std.proofs.Common.{◌+◌, ◌<◌, length, ◌∷◌, ◌∙◌, ap, map, take, drop, [], arith}
use Rattle.std.proofs.lemmas.Result.{err_from_is_err_and}
use Rattle.sheet_refs.specs.Cells.{cells_of}
use Rattle.sheet_refs.proofs.Places.{comes_to_head, comes_to_next}
use Rattle.formula_eval.specs.Functions.{contributions}
use Rattle.formula_eval.specs.Inputs.{seen_values}
use Rattle.formula_eval.specs.Items.{items_of_cells}
use Rattle.formula_eval.specs.Views.{looked}
use Rattle.formula_syntax.specs.declared.functions.Function.TheVariants.{Sum as SumOf}
use Rattle.formula_eval.specs.declared.cells.View.TheVariants.{All}
use Rattle.formula_eval.specs.Sums.{tally_of}
use Rattle.formula_eval.proofs.ClipLemmas.{items_step, items_split, items_length}
use Rattle.formula_eval.proofs.NodeLemmas.{take-all}
use Rattle.formula_eval.proofs.TallyLemmas.{adds_nothing, adds_same, adds_both, append_err, first_err}
use Rattle.formula_eval.proofs.sums.add_each.Goals as goal

pub value_at-requires-clause-inside : goal.value_at-requires-clause-inside
value_at-requires-clause-inside g c = c.requires.inside c.loop-place.cell c.loop-place.invariant.1.inside

pub value_at-requires-clause-known : goal.value_at-requires-clause-known
value_at-requires-clause-known g c =
    let inside = c.loop-place.invariant.1.inside in
    c.requires.plain.plain c.loop-place.cell inside (c.requires.inside c.loop-place.cell inside)

pub with_cell-requires-clause-room : goal.with_cell-requires-clause-room
with_cell-requires-clause-room g c =
    let h = looked All (seen_values (g.I.Inputs.sizes c.args.inputs.now) (g.I.Inputs.codes c.args.inputs.now)) in
    omega (
      arith,
      c.loop-place.invariant.0.count,
      items_length h (cells_of c.args.part) c.loop-place._place,
      c.cells-place-end.ensures.small,
      c.requires.room,
    )

pub loop-place-init : goal.loop-place-init
loop-place-init g c =
    (adds_nothing SumOf (tally_of c.args.sum) c.requires.bounded, rw c.head-cell.ensures.head (comes_to_head c.args.part c.head-cell.ensures.ordered))

pub loop-place-preserved : goal.loop-place-preserved
loop-place-preserved g c =
    let h = looked All (seen_values (g.I.Inputs.sizes c.args.inputs.now) (g.I.Inputs.codes c.args.inputs.now)) in
    let below : c.loop-place._place < length (cells_of c.args.part) = omega (arith, c.loop-place-test.true, c.cells-place-end.ensures.count) in
    let next = comes_to_next c.args.part c.loop-place._place c.loop-place.cell c.cell_behind-cell.result
    c.loop-place.invariant.1 below c.cell_behind-cell.ensures.next c.cell_behind-cell.ensures.inside in
    let step = items_step h (cells_of c.args.part) c.loop-place._place c.loop-place.cell c.value_at.result
    (c.loop-place.invariant.1.listed below) c.value_at.ensures in
    let adds = adds_both SumOf (tally_of c.args.sum) (tally_of c.loop-place.more) (tally_of c.in_ok-more.more) _ _ c.loop-place.invariant.0
    c.in_ok-more.ensures.ok in
    (adds_same SumOf (tally_of c.args.sum) (tally_of c.in_ok-more.more) _ _ step adds, next)

pub returns-in_err-more-clause-err : goal.returns-in_err-more-clause-err
returns-in_err-more-clause-err g c =
    let p = err_from_is_err_and c.from_residual.result c.from_residual.ensures.1 in
    let h = looked All (seen_values (g.I.Inputs.sizes c.args.inputs.now) (g.I.Inputs.codes c.args.inputs.now)) in
    let f = SumOf in
    let cells = cells_of c.args.part in
    let k = c.loop-place._place in
    let split = items_split h cells k c.loop-place.cell c.value_at.result
    (c.loop-place.invariant.1.listed (omega (arith, c.loop-place-test.true, c.cells-place-end.ensures.count)))
    c.value_at.ensures in
    let here = first_err f (items_of_cells (c.value_at.result ∷ [])) (items_of_cells (map h (drop (k + 1) cells)))
    c.in_err-more.field-0.0 c.in_err-more.ensures.err in
    let all = append_err f (items_of_cells (map h (take k cells))) _ c.loop-place.invariant.0.numbers
    c.in_err-more.field-0.0 c.loop-place.invariant.0.given here in
    rw (p.1, p.2) (ap (contributions f) split ∙ all)

pub returns-clause-ok : goal.returns-clause-ok
returns-clause-ok g c =
    let whole = take-all (cells_of c.args.part) c.loop-place._place (omega (arith, c.cells-place-end.ensures.count)) in
    rw whole at c.loop-place.invariant.0

pub returns-clause-few : goal.returns-clause-few
returns-clause-few g c =
    let h = looked All (seen_values (g.I.Inputs.sizes c.args.inputs.now) (g.I.Inputs.codes c.args.inputs.now)) in
    omega (arith, c.loop-place.invariant.0.count, items_length h (cells_of c.args.part) c.loop-place._place, c.cells-place-end.ensures.small)
