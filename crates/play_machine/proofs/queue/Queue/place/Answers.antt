use Rattle.play_machine.proofs.EditedLemmas.{all_listed, listed_placed}
use Rattle.play_machine.proofs.queue.Queue.place.Goals as goal

pub loop-cell-preserved : goal.loop-cell-preserved
loop-cell-preserved c =
    listed_placed c.args.sheet.now c.args.marks.now c.args.cells.now c.loop-cell.cell-index c.cell-item.result c.loop-cell.self
    c.add.new.self c.loop-cell-test.true c.cell-item.is c.in_ok-add.ensures c.loop-cell.invariant

pub returns : goal.returns
returns c =
    all_listed c.args.sheet.now c.args.marks.now c.args.cells.now c.loop-cell.cell-index c.loop-cell.self
    c.loop-cell-test.false c.loop-cell.invariant
