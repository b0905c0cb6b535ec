use Rattle.std.proofs.Common.{take}
use Rattle.sheet_model.specs.Edits.{AreInSheet}
use Rattle.edit_log.proofs.preparing.first_outside.Given as goal

abbrev pub invariant-loop-change : goal.invariant-loop-change
invariant-loop-change l = AreInSheet l.sheet (take l.change-index l.changes)
