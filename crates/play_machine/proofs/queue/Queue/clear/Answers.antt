use Rattle.std.proofs.Common.{◌≡◌, ap, refl, set, sym, subst, ◌∙◌}
use Rattle.play_machine.specs.Waiting.{AreWaiters, IsQueue, TakesWaiters, WaitAt}
use Rattle.play_machine.specs.Waiting.Unplaced.{one, waiting}
use Rattle.play_machine.specs.declared.queue.Queue.{Queue}
use Rattle.play_machine.proofs.QueueLemmas.{new_marks, woken, woken_waiters}
use Rattle.play_machine.proofs.queue.Queue.clear.Goals as goal

pub wake-requires-clause-queue : goal.wake-requires-clause-queue
wake-requires-clause-queue c =
    let sheet = c.args.sheet.now in
    let marks = c.args.marks.now.items in
    let list = c.in_ok-woken.woken.items in
    let marks_are : c.deref.result.now ≡ new_marks sheet marks c.args.cell c.requires.count c.requires.inside =
    c.deref.ensures.value ∙ ap (λ p. set marks p 0) c.place-place.ensures.place in
    let takes = subst (λ p. TakesWaiters c.args.self.now.waits c.take_waiters.new.waits p list) c.place-place.ensures.place c.in_ok-woken.ensures in
    let old = c.args.self.now in
    let new : Queue = record { ready = old.ready; waits = c.take_waiters.new.waits; first = old.first; last = old.last; touched = old.touched } in
    subst (λ ms. IsQueue sheet ms (waiting list) new) (sym marks_are) (woken sheet marks c.args.cell c.requires.count
    c.requires.inside c.args.self.now new list c.requires.queue c.requires.taken takes refl refl refl)

pub wake-requires-clause-waiters : goal.wake-requires-clause-waiters
wake-requires-clause-waiters c =
    let sheet = c.args.sheet.now in
    let marks = c.args.marks.now.items in
    let list = c.in_ok-woken.woken.items in
    let marks_are : c.deref.result.now ≡ new_marks sheet marks c.args.cell c.requires.count c.requires.inside =
    c.deref.ensures.value ∙ ap (λ p. set marks p 0) c.place-place.ensures.place in
    let taken = subst (λ p. WaitAt c.args.self.now.waits p list) c.place-place.ensures.place c.in_ok-woken.ensures.taken in
    subst (λ ms. AreWaiters sheet ms c.args.self.now.last list) (sym marks_are) (woken_waiters sheet marks c.args.cell c.requires.count
    c.requires.inside c.args.self.now list (one c.args.cell) c.requires.queue taken)
