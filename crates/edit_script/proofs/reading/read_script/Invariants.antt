-- The lines so far were taken, and the sheet has changed in its labels alone.
use Rattle.std.proofs.Common.{◌≡◌}
use Rattle.sheet_model.specs.Sheets.{with_labels}
use Rattle.edit_script.specs.Progress.{Extends, IsReading}
use Rattle.edit_script.specs.Scripts.{ground_of}
use Rattle.edit_script.proofs.reading.read_script.Given as goal

abbrev pub invariant-loop-text : goal.invariant-loop-text
invariant-loop-text l =
    (goal.iterator-loop-text).can_next l.text-iterator ×
    (goal.iterator-loop-text).is_finite l.text-iterator ×
    IsReading l.mode (ground_of l.fn.sheet) l.fn.sheet.labels l.sheet.labels l.fn.text l.number l.text-iterator l.progress ×
    (l.sheet ≡ with_labels l.fn.sheet l.sheet.labels) × Extends l.fn.sheet.labels l.sheet.labels
