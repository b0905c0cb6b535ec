use Rattle.std.proofs.Common.{◌≡◌, ◌++◌, drop}
use Rattle.sheet_cli.specs.Undone.{entries_of}
use Rattle.sheet_cli.proofs.undo.log_of.Given as goal

-- the entries of the steps so far, and those of what is left
abbrev pub invariant-loop-step : goal.invariant-loop-step
invariant-loop-step l = l.log.items ++ entries_of (drop l.step-index l.steps) ≡ entries_of l.steps
