use Rattle.play_machine.specs.Waiting.{NoneMarked}
use Rattle.play_machine.proofs.queue.first_marked.Given as goal

abbrev pub invariant-loop-place : goal.invariant-loop-place
invariant-loop-place l = NoneMarked l.sizes l.marks l.place
