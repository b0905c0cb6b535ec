use Rattle.recalc_trial.specs.Offices.{AreOpeningCodes}
use Rattle.recalc_trial.proofs.opening.opening_codes.Given as goal

abbrev pub invariant-loop-place : goal.invariant-loop-place
invariant-loop-place l = AreOpeningCodes l.sheet l.place l.codes.items
