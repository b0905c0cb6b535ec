use Rattle.std.proofs.Common.{◌≡◌, take}
use Rattle.sheet_model.specs.Edits.{replaced_by}
use Rattle.sheet_undo.proofs.replaying.held_in_sheet.Given as goal

abbrev pub invariant-loop-change : goal.invariant-loop-change
invariant-loop-change l = l.held.items ≡ replaced_by l.sheet (take l.change-index l.changes)
