use Rattle.std.proofs.Common.{◌∙◌, ap}
use Rattle.value_core.specs.Conversions.{never_empty}
use Rattle.formula_eval.proofs.MeaningLemmas.{value_same}
use Rattle.formula_eval.proofs.evaluation.eval_known.Goals as goal

pub returns : goal.returns
returns g c values agrees =
    let sizes = g.I.Inputs.sizes c.args.inputs.now in
    let codes = g.I.Inputs.codes c.args.inputs.now in
    let means = rw c.root.ensures.tree at c.value-value.ensures.value in
    c.never_empty.ensures ∙ ap never_empty means ∙ value_same sizes codes c.args.formula.now values agrees c.requires
