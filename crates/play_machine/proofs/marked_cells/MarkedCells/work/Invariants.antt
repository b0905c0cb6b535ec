use Rattle.std.proofs.Common.{◌≡◌, length}
use Rattle.play_machine.specs.Machine.{AreTurns}
use Rattle.play_machine.specs.Waiting.{IsQueue}
use Rattle.play_machine.specs.Waiting.Unplaced.{nothing}
use Rattle.play_machine.proofs.marked_cells.MarkedCells.work.Given as goal

abbrev pub invariant-loop : goal.invariant-loop
invariant-loop l =
    AreTurns l.sheet l.counter l.fn.self.marks.items l.self.marks.items
    × (length l.self.marks.items ≡ length l.fn.self.marks.items)
    × IsQueue l.sheet l.self.marks.items nothing l.queue
    × (l.self.left ≡ l.fn.self.left) × (l.self.touched ≡ l.fn.self.touched)
