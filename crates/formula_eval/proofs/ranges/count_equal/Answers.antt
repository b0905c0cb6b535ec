use Rattle.std.proofs.Common.{◌≡◌, ◌≤◌, ◌+◌, ◌∙◌, ap, refl, arith, map, pos, to_z, w64, Err}
use Rattle.std.proofs.lemmas.Int.{ints}
use Rattle.sheet_refs.specs.Cells.{cells_of}
use Rattle.value_core.specs.Conversions.{in_range}
use Rattle.value_core.specs.Wholes.{IsWhole}
use Rattle.value_core.proofs.ArithmeticLemmas.{in_range-in}
use Rattle.formula_syntax.specs.declared.functions.Function.TheVariants.{Counta}
use Rattle.formula_eval.specs.declared.cells.View.TheVariants.{Where}
use Rattle.formula_eval.specs.Functions.{equal_count, contributions}
use Rattle.formula_eval.specs.Inputs.{seen_values}
use Rattle.formula_eval.specs.Views.{seen_items}
use Rattle.formula_eval.proofs.TallyLemmas.{counta_here, counta_err, when_ok}
use Rattle.formula_eval.proofs.ViewLemmas.{equal_items}
use Rattle.formula_eval.proofs.ranges.count_equal.Goals as goal

pub add_cells-requires-clause-view : goal.add_cells-requires-clause-view
add_cells-requires-clause-view g c = (refl, record { rows = refl; cols = refl }, c.requires)

pub returns : goal.returns
returns g c =
    let sizes = g.I.Inputs.sizes c.args.inputs.now in
    let codes = g.I.Inputs.codes c.args.inputs.now in
    let h = seen_values sizes codes in
    let items = seen_items sizes codes (Where c.args.number c.args.range c.args.range) c.args.range in
    let count = counta_here c.new-tally.result c.add_cells.new.tally items c.add_cells.result c.add_cells.ensures.ok
    c.add_cells.ensures.err c.new-tally.ensures.tallies in
    let few : c.add_cells.new.tally.count ≤ c.new-tally.result.count + 17179869184 =
    when_ok {Q = λ kind. contributions Counta items ≡ Err kind} c.add_cells.result c.add_cells.ensures.few
    c.add_cells.ensures.err (λ kind is. counta_err items kind is) in
    let equal = equal_count c.args.number (map h (cells_of c.args.range)) in
    let number : c.add_cells.new.tally.count ≡ equal = count ∙ equal_items c.args.number h c.args.range in
    let small : equal ≤ 17179869184 = omega (arith, number, few, c.new-tally.ensures.count) in
    let whole : IsWhole (pos equal) = record { least = omega (arith, ints, small); most = omega (arith, ints, small) } in
    let fits : to_z w64 c.add_cells.new.tally.count ≡ pos equal = omega (arith, ints, number, small) in
    c.in_range.ensures ∙ (ap in_range fits ∙ in_range-in (pos equal) whole)

pub overflow_cast-tally : goal.overflow_cast-tally
overflow_cast-tally g c =
    let sizes = g.I.Inputs.sizes c.args.inputs.now in
    let codes = g.I.Inputs.codes c.args.inputs.now in
    let items = seen_items sizes codes (Where c.args.number c.args.range c.args.range) c.args.range in
    let few : c.add_cells.new.tally.count ≤ c.new-tally.result.count + 17179869184 =
    when_ok {Q = λ kind. contributions Counta items ≡ Err kind} c.add_cells.result c.add_cells.ensures.few
    c.add_cells.ensures.err (λ kind is. counta_err items kind is) in
    omega (arith, few, c.new-tally.ensures.count)
