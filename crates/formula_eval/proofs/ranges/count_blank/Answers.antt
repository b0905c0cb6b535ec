use Rattle.std.proofs.Common.{◌≡◌, ◌≤◌, ◌<◌, ◌-◌, ◌∙◌, ap, sym, arith, rules, map, filter, length, pos, to_z, w64}
use Rattle.std.proofs.lemmas.Int.{ints}
use Rattle.sheet_refs.specs.Cells.{Corners, cells_of}
use Rattle.value_core.specs.Conversions.{in_range}
use Rattle.value_core.specs.declared.value.Value.TheVariants.{Number}
use Rattle.value_core.specs.Wholes.{IsWhole}
use Rattle.value_core.proofs.ArithmeticLemmas.{in_range-in}
use Rattle.formula_eval.specs.Inputs.{seen_values}
use Rattle.formula_eval.specs.Items.{is_empty, items_of_cells}
use Rattle.formula_eval.proofs.ClipLemmas.{items_and_empty, mapped_length}
use Rattle.formula_eval.proofs.MachineLemmas.{blank_here, plain_among, plain_one_range}
use Rattle.formula_eval.proofs.TallyLemmas.{counta_here}
use Rattle.formula_eval.proofs.ranges.count_blank.Goals as goal

pub add_cells-requires-clause-plain : goal.add_cells-requires-clause-plain
add_cells-requires-clause-plain g c =
    let sizes = g.I.Inputs.sizes c.args.inputs.now in
    let codes = g.I.Inputs.codes c.args.inputs.now in
    let params = c.args.parameters.now in
    let some : 0 < length params = search rules in
    let plain = plain_among sizes codes params 0 c.index-parameters-0.result some c.index-parameters-0.is c.requires.plain in
    rw c.range.ensures (plain_one_range sizes codes c.in-Some.r (rw c.in-Some.ensures at plain))

pub overflow_sub-cells : goal.overflow_sub-cells
overflow_sub-cells g c =
    let h = seen_values (g.I.Inputs.sizes c.args.inputs.now) (g.I.Inputs.codes c.args.inputs.now) in
    let cells = cells_of c.range.result in
    let count = counta_here c.new-tally.result c.add_cells.new.tally (items_of_cells (map h cells)) c.add_cells.result
    c.add_cells.ensures.ok c.add_cells.ensures.err c.new-tally.ensures.tallies in
    let same : c.range-2.result ≡ c.range.result = c.range-2.ensures ∙ sym c.range.ensures in
    let all : c.cells.result ≡ length cells = rw same at c.cells.ensures.count in
    omega (arith, count, all, items_and_empty (map h cells), mapped_length h cells)

pub returns : goal.returns
returns g c =
    let h = seen_values (g.I.Inputs.sizes c.args.inputs.now) (g.I.Inputs.codes c.args.inputs.now) in
    let cells = cells_of c.range.result in
    let params = c.args.parameters.now in
    let some : 0 < length params = search rules in
    let count = counta_here c.new-tally.result c.add_cells.new.tally (items_of_cells (map h cells)) c.add_cells.result
    c.add_cells.ensures.ok c.add_cells.ensures.err c.new-tally.ensures.tallies in
    let same : c.range-2.result ≡ c.range.result = c.range-2.ensures ∙ sym c.range.ensures in
    let all : c.cells.result ≡ length cells = rw same at c.cells.ensures.count in
    let empties = length (filter is_empty (map h cells)) in
    let number : c.cells.result - c.add_cells.new.tally.count ≡ empties = omega (arith, count, all, items_and_empty (map h cells), mapped_length h cells) in
    let small : empties ≤ 17179869184 = omega (arith, number, c.cells.ensures.small) in
    let whole : IsWhole (pos empties) = record { least = omega (arith, ints, small); most = omega (arith, ints, small) } in
    let blank = blank_here h params c.index-parameters-0.result c.in-Some.r some c.index-parameters-0.is c.in-Some.ensures in
    let fits : to_z w64 (c.cells.result - c.add_cells.new.tally.count) ≡ pos empties = omega (arith, ints, number, small) in
    c.in_range-2.ensures ∙ ap in_range fits ∙ in_range-in (pos empties) whole
    ∙ ap (λ (range : Corners). Number (pos (length (filter is_empty (map h (cells_of range)))))) c.range.ensures ∙ sym blank
