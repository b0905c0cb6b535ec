use Rattle.std.proofs.Common.{◌≡◌, length, map, take}
use Rattle.std.specs.Prelude.{IfSome}
use Rattle.sheet_refs.specs.Cells.{cells_of}
use Rattle.sheet_model.specs.KeptValues.{KeepsValuesOf}
use Rattle.play_machine.specs.Machine.{shown_of}
use Rattle.play_machine.specs.Playing.{machine_of}
use Rattle.play_machine.proofs.machine.Player.look.Given as goal

abbrev pub invariant-loop-place : goal.invariant-loop-place
invariant-loop-place g l =
    (l.self.book ≡ l.fn.self.book) × (l.self.cells ≡ l.fn.self.cells)
    × IfSome l.self.values (KeepsValuesOf l.self.book.sheet)
    × (l.board ≡ record {
      room = length (cells_of l.window);
      number = length l.fn.self.book.log;
      window = l.window;
      cells = map (shown_of (machine_of l.fn.self.book l.fn.self.cells.marks.items)) (take l.place (cells_of l.window));
    })
