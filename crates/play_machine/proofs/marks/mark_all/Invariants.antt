use Rattle.std.proofs.Common.{◌≡◌, ◌+◌, ◌≤◌, take}
use Rattle.play_machine.specs.Marking.{SetsMarks, marked_count}
use Rattle.play_machine.proofs.marks.mark_all.Given as goal

abbrev pub invariant-loop-cell : goal.invariant-loop-cell
invariant-loop-cell l =
    SetsMarks l.fn.sizes (take l.cell-index l.cells) l.number l.fn.marks.items l.marks.items
    × (marked_count l.marks.items ≡ marked_count l.fn.marks.items + l.added)
    × (l.added ≤ l.cell-index)
