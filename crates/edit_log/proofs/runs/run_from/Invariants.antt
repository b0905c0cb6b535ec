use Rattle.std.proofs.Common.{◌+◌, ◌-◌}
use Rattle.edit_log.specs.Runs.{IsRunFrom}
use Rattle.edit_log.proofs.runs.run_from.Given as goal

abbrev pub invariant-loop-run : goal.invariant-loop-run
invariant-loop-run l = IsRunFrom l.sheet l.fn.cell l.run

abbrev pub decreases-loop-run : goal.decreases-loop-run
decreases-loop-run l = l.sheet.sizes.rows + 1 - (l.row + l.run.count)
