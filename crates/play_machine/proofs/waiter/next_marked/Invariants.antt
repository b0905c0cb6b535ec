use Rattle.play_machine.specs.Waiting.{IsSeen}
use Rattle.play_machine.proofs.waiter.next_marked.Given as goal

abbrev pub invariant-loop-place : goal.invariant-loop-place
invariant-loop-place l = IsSeen l.fn.sizes l.fn.marks l.fn.range l.place
