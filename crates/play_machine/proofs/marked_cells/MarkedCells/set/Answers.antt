use Rattle.std.proofs.Common.{subst}
use Rattle.play_machine.specs.Marking.{AddsCells}
use Rattle.play_machine.proofs.TouchedLemmas.{added}
use Rattle.play_machine.proofs.marked_cells.MarkedCells.set.Goals as goal

pub returns-clause-touched : goal.returns-clause-touched
returns-clause-touched c =
    added c.args.sizes c.args.self.now.touched c.in_ok-self.field-0 c.args.cells.now c.args.number c.args.self.now.marks.items
    c.mark_all.new.marks.items c.requires.touched
    (subst (λ was. AddsCells was c.args.cells.now c.in_ok-self.field-0) c.take-touched.ensures.value c.in_ok-self.ensures)
    c.mark_all.ensures.marks
