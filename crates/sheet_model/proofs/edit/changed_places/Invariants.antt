use Rattle.std.proofs.Common.{◌≡◌, map, take, All}
use Rattle.sheet_model.specs.Edits.{AreWritten, HasName, named_place}
use Rattle.sheet_model.proofs.edit.changed_places.Given as goal

abbrev pub invariant-loop-change : goal.invariant-loop-change
invariant-loop-change l =
    (l.places.items ≡ map (λ change. named_place change.cell) (take l.change-index l.changes))
    × All (λ change. HasName change.cell) (take l.change-index l.changes)
    × AreWritten (take l.change-index l.changes)
