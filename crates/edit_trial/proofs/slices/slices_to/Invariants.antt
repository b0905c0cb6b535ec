use Rattle.sheet_model.specs.KeptValues.{KeepsValuesOf}
use Rattle.edit_trial.proofs.slices.slices_to.Given as goal

abbrev pub invariant-loop-slice : goal.invariant-loop-slice
invariant-loop-slice l = KeepsValuesOf l.sheet l.values
