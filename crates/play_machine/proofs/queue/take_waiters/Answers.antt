use Rattle.std.proofs.Common.{sym}
use Rattle.play_machine.proofs.QueueLemmas.{taken_list}
use Rattle.play_machine.proofs.queue.take_waiters.Goals as goal

pub returns-in-Some : goal.returns-in-Some
returns-in-Some c = taken_list c.args.waits.now c.remove.new.self c.args.place c.in-Some.list (sym c.in-Some.ensures.value) c.in-Some.ensures.updates
