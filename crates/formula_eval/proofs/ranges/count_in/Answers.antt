use Rattle.std.proofs.Common.{◌∙◌, ap, sym}
use Rattle.formula_eval.specs.Functions.{count_of}
use Rattle.formula_eval.specs.Inputs.{seen_values}
use Rattle.formula_eval.proofs.ranges.count_in.Goals as goal

pub count_equal-requires : goal.count_equal-requires
count_equal-requires g c = c.in-Some.ensures.plain (g.I.Inputs.sizes c.args.inputs.now) (g.I.Inputs.codes c.args.inputs.now) c.requires

pub returns-in-Some : goal.returns-in-Some
returns-in-Some g c = c.count_equal.ensures
    ∙ ap (count_of c.args.number)
    (sym
    (c.in-Some.ensures.cells (seen_values (g.I.Inputs.sizes c.args.inputs.now) (g.I.Inputs.codes c.args.inputs.now))))

pub returns-in-None : goal.returns-in-None
returns-in-None g c = c.in_range.ensures
    ∙ ap (count_of c.args.number)
    (sym (c.in-None.ensures (seen_values (g.I.Inputs.sizes c.args.inputs.now) (g.I.Inputs.codes c.args.inputs.now))))
