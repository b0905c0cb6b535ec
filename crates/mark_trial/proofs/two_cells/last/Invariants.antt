-- The last number so far and those that are left give the last of all.
use Rattle.std.proofs.Common.{◌≡◌, drop}
use Rattle.mark_trial.specs.TwoTestCells.{last_or}
use Rattle.mark_trial.proofs.two_cells.last.Given as goal

abbrev pub invariant-loop-number : goal.invariant-loop-number
invariant-loop-number l = last_or l.last (drop l.number-index l.numbers) ≡ last_or 1 l.numbers
