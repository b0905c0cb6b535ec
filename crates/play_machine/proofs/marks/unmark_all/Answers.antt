use Rattle.std.proofs.Common.{sym, subst}
use Rattle.play_machine.specs.Marking.{SetsMarks}
use Rattle.sheet_model.proofs.ListLemmas.{taken_more}
use Rattle.play_machine.proofs.MarkLemmas.{marks_more}
use Rattle.play_machine.proofs.marks.unmark_all.Goals as goal

pub loop-cell-preserved : goal.loop-cell-preserved
loop-cell-preserved c =
    subst (λ cells. SetsMarks c.args.sizes cells 0 c.args.marks.now.items c.unmark_cell.new.marks.items)
    (sym (taken_more c.args.cells.now c.loop-cell.cell-index c.cell-item.result c.loop-cell-test.true c.cell-item.is))
    (marks_more c.args.sizes _ c.cell-item.result 0 _ _ _ c.loop-cell.invariant c.unmark_cell.ensures)
