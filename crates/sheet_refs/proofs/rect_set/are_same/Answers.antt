use Rattle.std.proofs.Common.{arith}
use Rattle.sheet_refs.proofs.BandLemmas.{same_items}
use Rattle.sheet_refs.proofs.rect_set.are_same.Goals as goal

pub returns : goal.returns
returns c = λ _. same_items c.args.runs.now c.args.others.now c.loop-place.invariant.0 (λ k d below. c.loop-place.invariant.1 k d (omega arith))
