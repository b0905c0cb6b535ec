use Rattle.std.proofs.Common.{◌∙◌, sym}
use Rattle.formula_eval.specs.Inputs.{seen_values}
use Rattle.formula_eval.proofs.RangeLemmas.{summed_none, summed_alone, sum_unlike, sum_like}
use Rattle.formula_eval.proofs.ranges.sum_in.Goals as goal

pub returns-in_default : goal.returns-in_default
returns-in_default g c =
    let h = seen_values (g.I.Inputs.sizes c.args.inputs.now) (g.I.Inputs.codes c.args.inputs.now) in
    c.in_range.ensures ∙ summed_none c.args.number h c.args.parameters.now c.in_default.ensures

pub returns-in_default-range_at : goal.returns-in_default-range_at
returns-in_default-range_at g c =
    let h = seen_values (g.I.Inputs.sizes c.args.inputs.now) (g.I.Inputs.codes c.args.inputs.now) in
    c.in_range-in_default-range_at.ensures
    ∙ summed_alone c.args.number h c.args.parameters.now c.summed_place-summed.result c.summed_place-summed.ensures
    c.in_default-range_at.ensures

pub returns-then-not-have_same_sizes : goal.returns-then-not-have_same_sizes
returns-then-not-have_same_sizes g c =
    let h = seen_values (g.I.Inputs.sizes c.args.inputs.now) (g.I.Inputs.codes c.args.inputs.now) in
    sum_unlike c.args.number h c.args.parameters.now c.summed_place-summed.result c.in-Some.from c.in-Some-range_at.to
    c.summed_place-summed.ensures c.in-Some.ensures c.in-Some-range_at.ensures
    (sym c.have_same_sizes.ensures ∙ c.if-not-have_same_sizes.true)

pub returns : goal.returns
returns g c =
    let h = seen_values (g.I.Inputs.sizes c.args.inputs.now) (g.I.Inputs.codes c.args.inputs.now) in
    c.sum_selected.ensures
    ∙ sym (sum_like c.args.number h c.args.parameters.now c.summed_place-summed.result c.in-Some.from
    c.in-Some-range_at.to c.summed_place-summed.ensures c.in-Some.ensures c.in-Some-range_at.ensures
    (sym c.have_same_sizes.ensures ∙ c.if-not-have_same_sizes.false))
