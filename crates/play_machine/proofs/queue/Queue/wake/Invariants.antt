use Rattle.std.proofs.Common.{length}
use Rattle.play_machine.specs.Waiting.{AreWaiters, IsQueue}
use Rattle.play_machine.specs.Waiting.Unplaced.{waiting}
use Rattle.play_machine.proofs.queue.Queue.wake.Given as goal

abbrev pub invariant-loop-waiter : goal.invariant-loop-waiter
invariant-loop-waiter l = IsQueue l.sheet l.marks (waiting l.woken.items) l.self × AreWaiters l.sheet l.marks l.self.last l.woken.items

abbrev pub decreases-loop-waiter : goal.decreases-loop-waiter
decreases-loop-waiter l = length l.woken.items
