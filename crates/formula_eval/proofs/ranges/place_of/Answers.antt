use Rattle.std.proofs.Common.{◌≡◌, ◌<◌, ◌≤◌, ◌+◌, ◌+ℤ◌, ◌∙◌, ap, sym, refl, arith, length, map, pos, of_z, to_z, w64}
use Rattle.std.proofs.lemmas.Int.{ints}
use Rattle.sheet_refs.specs.Cells.{Corners, cells_of}
use Rattle.sheet_refs.proofs.Places.{comes_to_head, comes_to_next}
use Rattle.value_core.specs.Conversions.{in_range}
use Rattle.value_core.specs.Wholes.{IsWhole}
use Rattle.value_core.proofs.ArithmeticLemmas.{in_range-in}
use Rattle.formula_eval.specs.Functions.{place_from}
use Rattle.formula_eval.specs.Inputs.{seen_values}
use Rattle.formula_eval.proofs.ClipLemmas.{seen_empty}
use Rattle.formula_eval.proofs.ViewLemmas.{line_place, past_place, place_on, place_found, place_missing}
use Rattle.formula_eval.proofs.ranges.place_of.Goals as goal

pub returns-in_default : goal.returns-in_default
returns-in_default g c =
    let sizes = g.I.Inputs.sizes c.args.inputs.now in
    let codes = g.I.Inputs.codes c.args.inputs.now in
    let outside = rw (c.sizes.ensures, c.in_default.is) at c.clip.ensures.nothing in
    sym (past_place sizes c.args.number (seen_values sizes codes) c.args.range (seen_empty sizes codes) (outside refl))

pub loop-place-init : goal.loop-place-init
loop-place-init g c = (refl, rw c.head-cell.ensures.head (comes_to_head c.in-Some.part c.head-cell.ensures.ordered))

pub loop-place-preserved : goal.loop-place-preserved
loop-place-preserved g c =
    let h = seen_values (g.I.Inputs.sizes c.args.inputs.now) (g.I.Inputs.codes c.args.inputs.now) in
    let cells = cells_of c.in-Some.part in
    let below : c.loop-place.place < length cells = omega (arith, c.loop-place-test.true, c.cells-place-end.ensures.count) in
    let next = comes_to_next c.in-Some.part c.loop-place.place c.loop-place.cell c.cell_behind-cell.result
    c.loop-place.invariant.1 below c.cell_behind-cell.ensures.next c.cell_behind-cell.ensures.inside in
    let on = place_on c.args.number h cells c.loop-place.place c.loop-place.cell c.value_at.result
    (c.loop-place.invariant.1.listed below) c.value_at.ensures (sym c.equals.ensures ∙ c.if-equals.false) in
    (c.loop-place.invariant.0 ∙ on, next)

pub returns-then-equals : goal.returns-then-equals
returns-then-equals g c =
    let sizes = g.I.Inputs.sizes c.args.inputs.now in
    let codes = g.I.Inputs.codes c.args.inputs.now in
    let h = seen_values sizes codes in
    let cells = cells_of c.in-Some.part in
    let k = c.loop-place.place in
    let corners = rw c.sizes.ensures at c.in-Some.ensures.corners in
    let inside = rw c.sizes.ensures at (c.in-Some.ensures.some.0 refl) in
    let line = line_place sizes c.args.number h c.args.range (seen_empty sizes codes) inside c.requires.line
    ∙ ap (λ (part : Corners). place_from 1 c.args.number (map h (cells_of part))) (sym corners) in
    let below : k < length cells = omega (arith, c.loop-place-test.true, c.cells-place-end.ensures.count) in
    let found = place_found c.args.number h cells k c.loop-place.cell c.value_at.result
    (c.loop-place.invariant.1.listed below) c.value_at.ensures (sym c.equals.ensures ∙ c.if-equals.true) in
    let small : k + 1 ≤ 17179869184 = omega (arith, c.loop-place-test.true, c.cells-place-end.ensures.small) in
    let whole : IsWhole (pos (k + 1)) = record { least = omega (arith, ints, small); most = omega (arith, ints, small) } in
    let fits : to_z w64 (of_z w64 (to_z w64 k +ℤ pos 1)) ≡ pos (k + 1) = omega (arith, ints, small) in
    c.in_range.ensures ∙ (ap in_range fits ∙ (in_range-in (pos (k + 1)) whole ∙ sym (line ∙ (c.loop-place.invariant.0 ∙ found))))

pub returns : goal.returns
returns g c =
    let sizes = g.I.Inputs.sizes c.args.inputs.now in
    let codes = g.I.Inputs.codes c.args.inputs.now in
    let h = seen_values sizes codes in
    let cells = cells_of c.in-Some.part in
    let corners = rw c.sizes.ensures at c.in-Some.ensures.corners in
    let inside = rw c.sizes.ensures at (c.in-Some.ensures.some.0 refl) in
    let line = line_place sizes c.args.number h c.args.range (seen_empty sizes codes) inside c.requires.line
    ∙ ap (λ (part : Corners). place_from 1 c.args.number (map h (cells_of part))) (sym corners) in
    let missing = place_missing c.args.number h cells c.loop-place.place (omega (arith, c.cells-place-end.ensures.count)) in
    sym (line ∙ (c.loop-place.invariant.0 ∙ missing))
