use Rattle.std.proofs.Common.{inr, refl}
use Rattle.recalc_plan.proofs.planner.Planner.wake_one.Goals as goal

pub returns-in_ok-add-in-Some-clause-woken : goal.returns-in_ok-add-in-Some-clause-woken
returns-in_ok-add-in-Some-clause-woken c =
    inr (
      record {
        input = c.in-Some.cell;
        next = c.look_on.new.self;
        looked = c.in-Some.ensures.looks;
        found = c.in-Some.ensures.found.0;
        adds = c.in_ok-add-in-Some.ensures.added;
      },
      refl,
    )
