use Rattle.std.proofs.Common.{◌≡◌, subst}
use Rattle.sheet_model.proofs.ListLemmas.{on_ok}
use Rattle.play_machine.specs.Machine.{IsFirstCell, IsMarked, without_mark}
use Rattle.play_machine.specs.Machine.IsTurn.{clears_marked}
use Rattle.play_machine.proofs.QueueLemmas.{none_held}
use Rattle.play_machine.proofs.queue.Queue.clear_first.Goals as goal

pub returns-clause-turn : goal.returns-clause-turn
returns-clause-turn c =
    let sheet = c.args.sheet.now in
    let marks = c.args.marks.now.items in
    let first = subst (λ ms. IsFirstCell sheet.sizes (IsMarked sheet.sizes ms) c.in-Some.cell) c.deref.ensures.value c.in-Some.ensures in
    on_ok c.clear.result (λ (made : c.clear.new.marks.items ≡ without_mark sheet.sizes marks c.in-Some.cell).
    clears_marked c.in-Some.cell (none_held sheet marks c.args.self.now c.requires.queue c.requires.none) first
    made) c.clear.ensures.marks
