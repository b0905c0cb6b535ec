use Rattle.std.proofs.Common.{take}
use Rattle.sheet_undo.specs.Undoing.{AreFor}
use Rattle.live_trial.proofs.undoing.all_are_for.Given as goal

abbrev pub invariant-loop-entry : goal.invariant-loop-entry
invariant-loop-entry l = AreFor l.sheet (take l.entry-index l.log)
