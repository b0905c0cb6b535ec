use Rattle.std.proofs.Common.{◌≡◌, length, take, count_by}
use Rattle.std.specs.Prelude.{IfSome}
use Rattle.sheet_model.specs.KeptValues.{KeepsValuesOf}
use Rattle.play_machine.specs.Machine.{Plays, opening}
use Rattle.play_machine.specs.Playing.{is_put, machine_of}
use Rattle.play_machine.specs.Waiting.{AreKept}
use Rattle.play_machine.proofs.steps.play.Given as goal

abbrev pub invariant-loop-step : goal.invariant-loop-step
invariant-loop-step g l =
    Plays (opening l.fn.book.sheet) (take l.step-index l.steps) (machine_of l.player.book l.player.cells.marks.items) l.reports.items
    × AreKept l.player.book.sheet l.player.cells
    × IfSome l.player.values (KeepsValuesOf l.player.book.sheet)
    × (l.player.book.sheet.sizes ≡ l.fn.book.sheet.sizes) × (l.player.book.sheet.labels ≡ l.fn.book.sheet.labels)
    × (length l.player.book.log ≡ count_by (λ step. is_put step.command) (take l.step-index l.steps))
