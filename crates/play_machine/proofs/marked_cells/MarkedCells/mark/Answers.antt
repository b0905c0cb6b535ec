use Rattle.std.proofs.Common.{◌<◌, refl, subst, sym}
use Rattle.std.specs.Prelude.{IfSome}
use Rattle.sheet_refs.specs.declared.sizes.Sizes.{Sizes}
use Rattle.play_machine.specs.Marking.{SetsMarks}
use Rattle.play_machine.specs.Waiting.{IsQueue, SetsAside}
use Rattle.play_machine.specs.Waiting.Unplaced.{listed, nothing}
use Rattle.play_machine.proofs.EditedLemmas.{edited}
use Rattle.play_machine.proofs.marked_cells.MarkedCells.mark.Goals as goal

pub place-requires-clause-queue : goal.place-requires-clause-queue
place-requires-clause-queue c =
    let before = c.args.before.value in
    let sheet = c.args.sheet.now in
    let cells = c.args.cells.now in
    let old = c.args.self.now.marks.items in
    let new = c.set.new.self.marks.items in
    let queue = c.in-Some.queue in
    let next = c.set_aside.new.self in
    let are = subst (λ kept. IfSome kept (IsQueue before old nothing)) (sym c.in-Some.ensures.value) c.requires.kept.queue in
    let sets = subst (λ (s : Sizes). SetsMarks s cells c.args.number old new) c.sizes-sizes.ensures.sizes c.in_ok-set.ensures.marks in
    let aside = subst (λ (s : Sizes). SetsAside s cells c.args.number queue next) c.sizes-sizes.ensures.sizes c.set_aside.ensures in
    let less : queue.last < c.args.number = c.if-not-outlasts.ensures refl in
    subst (λ ms. IsQueue sheet ms (listed cells 0) next) (sym c.deref.ensures.value)
    (edited before sheet cells c.requires.edit c.args.number old new sets queue next are aside less)
