use Rattle.recalc_workers.specs.Hands.{IsHandOf}
use Rattle.recalc_trial.proofs.turn_tests.jobs_for.Given as goal

abbrev pub invariant-loop-name : goal.invariant-loop-name
invariant-loop-name g l = IsHandOf l.jobs l.hand
