use Rattle.std.proofs.Common.{take}
use Rattle.play_machine.specs.Marking.{SetsMarks}
use Rattle.play_machine.proofs.marks.unmark_all.Given as goal

abbrev pub invariant-loop-cell : goal.invariant-loop-cell
invariant-loop-cell l = SetsMarks l.fn.sizes (take l.cell-index l.cells) 0 l.fn.marks.items l.marks.items
