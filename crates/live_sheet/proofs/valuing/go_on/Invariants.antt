use Rattle.sheet_model.specs.KeptValues.{KeepsValuesOf}
use Rattle.live_sheet.proofs.valuing.go_on.Given as goal

abbrev pub invariant-loop-cell : goal.invariant-loop-cell
invariant-loop-cell l = record { kept : KeepsValuesOf l.sheet l.values }
