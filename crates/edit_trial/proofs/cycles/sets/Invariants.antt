use Rattle.std.proofs.Common.{ℕ}
use Rattle.sheet_model.specs.Edits.{HaveLabels}
use Rattle.edit_trial.proofs.cycles.sets.Given as goal

abbrev pub invariant-loop-name : goal.invariant-loop-name
invariant-loop-name l = (labels : ℕ) → HaveLabels labels l.changes.items
