use Rattle.std.proofs.Common.{take}
use Rattle.live_run.specs.Runs.{AreReportsFor}
use Rattle.live_run.proofs.split.reports_for.Given as goal

abbrev pub invariant-loop-place : goal.invariant-loop-place
invariant-loop-place l = AreReportsFor (take l.place l.commands) l.reports.items
