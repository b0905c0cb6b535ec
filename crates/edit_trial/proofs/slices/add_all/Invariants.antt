use Rattle.sheet_model.specs.KeptValues.{KeepsValuesOf}
use Rattle.edit_trial.proofs.slices.add_all.Given as goal

abbrev pub invariant-loop-name : goal.invariant-loop-name
invariant-loop-name l = KeepsValuesOf l.sheet l.values
