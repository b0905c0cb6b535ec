use Rattle.formula_eval.proofs.MeaningLemmas.{stopped_value}
use Rattle.formula_eval.proofs.evaluation.eval.Goals as goal

pub returns-in-Err-clause-value : goal.returns-in-Err-clause-value
returns-in-Err-clause-value g c =
    let sizes = g.I.Inputs.sizes c.args.inputs.now in
    let codes = g.I.Inputs.codes c.args.inputs.now in
    let stops = rw c.root.ensures.tree at c.in-Err.ensures.stop in
    stopped_value sizes codes c.args.formula.now c.answer_at.result c.in-Err.stop stops c.answer_at.ensures.circular c.answer_at.ensures.kind

pub eval_known-requires : goal.eval_known-requires
eval_known-requires g c = rw c.root.ensures.tree at c.in_default.ensures.plain
