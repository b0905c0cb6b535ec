use Rattle.sheet_model.proofs.ListLemmas.{on_ok}
use Rattle.play_machine.specs.Waiting.{Places}
use Rattle.play_machine.proofs.QueueLemmas.{waiter_placed}
use Rattle.play_machine.proofs.queue.Queue.wake_one.Goals as goal

pub returns-clause-places : goal.returns-clause-places
returns-clause-places c =
    let sheet = c.args.sheet.now in
    let marks = c.args.marks.now in
    on_ok c.keep.result
    (λ (placed : Places sheet marks c.args.waiter.cell c.args.self.now c.keep.new.self).
    waiter_placed sheet marks c.args.waiter c.args.self.now c.keep.new.self placed)
    c.keep.ensures.places
