use Rattle.play_machine.proofs.QueueLemmas.{added_waiter}
use Rattle.play_machine.proofs.queue.add_waiter.Goals as goal

pub returns : goal.returns
returns c =
    added_waiter c.args.waits.now c.take_waiters.new.waits c.insert.new.self c.args.place c.in_ok-list.list.items
    c.push.new.self c.args.waiter c.in_ok-list.ensures c.in_ok-push.ensures.items c.in_ok-insert.ensures.updates
