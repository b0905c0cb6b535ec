use Rattle.std.proofs.Common.{arith, sym, subst}
use Rattle.play_machine.specs.Marking.{SetsMarks}
use Rattle.sheet_model.proofs.ListLemmas.{taken_more}
use Rattle.play_machine.proofs.MarkLemmas.{marks_more}
use Rattle.play_machine.proofs.marks.mark_all.Goals as goal

pub loop-cell-preserved : goal.loop-cell-preserved
loop-cell-preserved c =
    let before = c.loop-cell.invariant in
    let counted = c.mark_cell-added.ensures.counted in
    let few = c.mark_cell-added.ensures.one in
    let sum = before.1 in
    let most = before.2 in (
      subst (λ cells. SetsMarks c.args.sizes cells c.args.number c.args.marks.now.items c.mark_cell-added.new.marks.items)
          (sym (taken_more c.args.cells.now c.loop-cell.cell-index c.cell-item.result c.loop-cell-test.true c.cell-item.is))
          (marks_more c.args.sizes _ c.cell-item.result c.args.number _ _ _ before.0 c.mark_cell-added.ensures.marks),
      omega (arith, counted, sum),
      omega (arith, few, most),
    )
