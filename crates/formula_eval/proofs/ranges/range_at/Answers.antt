use Rattle.formula_eval.proofs.RangeLemmas.{range_past, range_none, range_here}
use Rattle.formula_eval.proofs.ranges.range_at.Goals as goal

pub returns-then-place-parameters : goal.returns-then-place-parameters
returns-then-place-parameters c = range_past c.args.parameters.now c.args.place c.if-place-parameters.true

pub returns-in_err-reference : goal.returns-in_err-reference
returns-in_err-reference c =
    rw c.from_residual.ensures (range_none c.args.parameters.now c.args.place c.index-parameters-place.result
    c.if-place-parameters.false c.index-parameters-place.is c.in_err-reference.ensures)

pub returns : goal.returns
returns c =
    rw c.range.ensures (range_here c.args.parameters.now c.args.place c.index-parameters-place.result
    c.in_ok-reference.reference c.if-place-parameters.false c.index-parameters-place.is c.in_ok-reference.ensures)
