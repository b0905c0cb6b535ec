use Rattle.std.proofs.Common.{◌∙◌, ap, sym, refl, arith, []}
use Rattle.formula_syntax.specs.declared.functions.Function.TheVariants.{Sum}
use Rattle.formula_eval.specs.Functions.{contributions, total_of, or_error}
use Rattle.formula_eval.specs.Inputs.{seen_values}
use Rattle.formula_eval.proofs.ViewLemmas.{selected_items}
use Rattle.formula_eval.proofs.ranges.sum_selected.Goals as goal

pub add_cells-requires-clause-view : goal.add_cells-requires-clause-view
add_cells-requires-clause-view g c = (refl, c.requires.sizes, c.requires.other)

pub finish-requires : goal.finish-requires
finish-requires g c = omega (arith, c.in_default.ensures.few, c.new-tally.ensures.count)

pub returns-in-Err : goal.returns-in-Err
returns-in-Err g c =
    let h = seen_values (g.I.Inputs.sizes c.args.inputs.now) (g.I.Inputs.codes c.args.inputs.now) in
    sym
    (ap (λ r. or_error r (total_of Sum))
    (ap (contributions Sum) (selected_items c.args.number h c.args.from c.args.to c.requires.sizes)
    ∙ c.in-Err.ensures.err))

pub returns : goal.returns
returns g c =
    let h = seen_values (g.I.Inputs.sizes c.args.inputs.now) (g.I.Inputs.codes c.args.inputs.now) in
    let adds = c.in_default.ensures.ok in
    c.finish.ensures Sum adds.numbers (adds.tallied [] c.new-tally.ensures.tallies)
    ∙ sym (ap (λ r. or_error r (total_of Sum)) (ap (contributions Sum) (selected_items c.args.number h c.args.from c.args.to c.requires.sizes) ∙ adds.given))
