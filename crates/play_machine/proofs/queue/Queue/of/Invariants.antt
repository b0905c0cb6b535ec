use Rattle.play_machine.specs.Waiting.{IsQueue}
use Rattle.play_machine.specs.Waiting.Unplaced.{from}
use Rattle.play_machine.proofs.queue.Queue.of.Given as goal

abbrev pub invariant-loop-place : goal.invariant-loop-place
invariant-loop-place l = IsQueue l.sheet l.marks (from l.place) l.queue
