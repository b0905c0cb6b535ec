use Rattle.recalc_plan.specs.Opens.{LooksOn}
use Rattle.recalc_plan.proofs.waiter.Waiter.look_on.Given as goal

abbrev pub invariant-loop-self : goal.invariant-loop-self
invariant-loop-self l = LooksOn l.opens l.fn.self l.self

abbrev pub decreases-loop-self : goal.decreases-loop-self
decreases-loop-self l = goal.left-loop-self l
