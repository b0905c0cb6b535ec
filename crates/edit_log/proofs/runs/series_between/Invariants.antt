use Rattle.std.proofs.Common.{◌≡◌, take}
use Rattle.edit_log.specs.Runs.{series_of}
use Rattle.edit_log.proofs.runs.series_between.Given as goal

abbrev pub invariant-loop-place : goal.invariant-loop-place
invariant-loop-place l = l.series.items ≡ series_of (take l.place l.first) (take l.place l.last)
