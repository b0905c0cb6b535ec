use Rattle.std.specs.Prelude.{◌≢◌, AllPairs}
use Rattle.recalc_trial.proofs.plan_tests.cells_of.Given as goal

abbrev pub invariant-loop-name : goal.invariant-loop-name
invariant-loop-name l = AllPairs (λ a b. a ≢ b) l.cells.items
