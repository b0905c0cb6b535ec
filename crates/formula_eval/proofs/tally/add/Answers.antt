use Rattle.std.proofs.Common.{◌≡◌, ◌∙◌, Ok, Some, sym, ap}
use Rattle.formula_eval.specs.Functions.{contribution}
use Rattle.formula_eval.proofs.TallyLemmas.{adds_one}
use Rattle.formula_eval.proofs.tally.add.Goals as goal

pub returns-in-Ok-Some-clause-ok : goal.returns-in-Ok-Some-clause-ok
returns-in-Ok-Some-clause-ok c =
    let f = c.args.function in
    let given : contribution f c.args.item ≡ Ok (Some c.in-Ok-Some.number) = sym c.contribution.ensures ∙ c.in-Ok-Some.is ∙ ap Ok c.in-Ok-Some.field-0-is in
    adds_one f c.args.tally.now c.with.result c.args.item c.in-Ok-Some.number given (c.with.ensures.tallies f) c.with.ensures.bounded c.with.ensures.count
