use Rattle.play_machine.specs.Waiting.{IsQueue}
use Rattle.play_machine.specs.Waiting.Unplaced.{listed}
use Rattle.play_machine.proofs.queue.Queue.place.Given as goal

abbrev pub invariant-loop-cell : goal.invariant-loop-cell
invariant-loop-cell l = IsQueue l.sheet l.marks (listed l.cells l.cell-index) l.self
