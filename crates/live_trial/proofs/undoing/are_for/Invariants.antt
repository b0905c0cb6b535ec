use Rattle.std.proofs.Common.{take}
use Rattle.sheet_model.specs.Edits.{IsFor}
use Rattle.live_trial.proofs.undoing.are_for.Given as goal

abbrev pub invariant-loop-change : goal.invariant-loop-change
invariant-loop-change l = IsFor l.sheet (take l.change-index l.changes)
