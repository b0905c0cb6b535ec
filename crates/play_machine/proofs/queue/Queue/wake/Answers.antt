use Rattle.std.proofs.Common.{subst, sym}
use Rattle.play_machine.specs.Waiting.{AreWaiters}
use Rattle.play_machine.proofs.QueueLemmas.{last_placed, last_waiter, other_waiters}
use Rattle.play_machine.proofs.queue.Queue.wake.Goals as goal

pub wake_one-requires-clause-waiter : goal.wake_one-requires-clause-waiter
wake_one-requires-clause-waiter c =
    last_waiter c.args.sheet.now c.args.marks.now c.loop-waiter.self.last c.pop.new.self.items c.loop-waiter.woken.items c.in-Some.waiter
    c.in-Some.ensures.items c.loop-waiter.invariant.1

pub loop-waiter-preserved : goal.loop-waiter-preserved
loop-waiter-preserved c = (
  last_placed c.args.sheet.now c.args.marks.now c.pop.new.self.items c.loop-waiter.woken.items c.in-Some.waiter
      c.loop-waiter.self c.wake_one.new.self c.in-Some.ensures.items c.in_ok-wake_one.ensures.places c.loop-waiter.invariant.0,
  subst (λ last. AreWaiters c.args.sheet.now c.args.marks.now last c.pop.new.self.items) (sym c.in_ok-wake_one.ensures.last)
      (other_waiters c.args.sheet.now c.args.marks.now c.loop-waiter.self.last c.pop.new.self.items c.loop-waiter.woken.items
      c.in-Some.waiter c.in-Some.ensures.items c.loop-waiter.invariant.1),
)
