use Rattle.std.proofs.Common.{◌≡◌, ◌-◌, length}
use Rattle.play_machine.specs.Waiting.{IsWaiter}
use Rattle.play_machine.proofs.waiter.Waiter.look_on.Given as goal

abbrev pub invariant-loop-self : goal.invariant-loop-self
invariant-loop-self l = IsWaiter l.sheet l.marks l.self × (l.self.cell ≡ l.fn.self.cell) × (l.self.mark ≡ l.fn.self.mark)

abbrev pub decreases-loop-self : goal.decreases-loop-self
decreases-loop-self l = length l.self.refs - l.self.range
