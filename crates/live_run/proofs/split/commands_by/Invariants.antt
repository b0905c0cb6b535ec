use Rattle.std.proofs.Common.{◌≡◌, take}
use Rattle.live_run.specs.Legal.{commands_by}
use Rattle.live_run.proofs.split.commands_by.Given as goal

abbrev pub invariant-loop-place : goal.invariant-loop-place
invariant-loop-place l = l.commands.items ≡ commands_by l.client (take l.place l.steps)
