use Rattle.std.proofs.Common.{◌≡◌, take}
use Rattle.sheet_model.specs.Edits.{replaced_by}
use Rattle.sheet_model.specs.Logs.{after}
use Rattle.sheet_undo.specs.Undoing.{AreWhole}
use Rattle.sheet_undo.proofs.replaying.held_after.Given as goal

abbrev pub invariant-loop-entry : goal.invariant-loop-entry
invariant-loop-entry l =
    (l.held.items ≡ replaced_by (after l.opening (take l.entry-index l.earlier)) l.own)
    × AreWhole (take l.entry-index l.earlier)
