-- The editor's seat has so many entries.
use Rattle.std.proofs.Common.{◌≤◌, ◌-◌}
use Rattle.mark_trial.specs.Threads.{IsReadyEditor}
use Rattle.mark_trial.proofs.words.sets_often.Given as goal

abbrev pub invariant-loop-count : goal.invariant-loop-count
invariant-loop-count l = (l.count ≤ l.entries) × IsReadyEditor l.marks l.editor l.count

abbrev pub decreases-loop-count : goal.decreases-loop-count
decreases-loop-count l = l.entries - l.count
