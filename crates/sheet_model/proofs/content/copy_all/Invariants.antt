use Rattle.std.proofs.Common.{◌≡◌, map, take}
use Rattle.sheet_model.specs.Sheets.{content_value}
use Rattle.sheet_model.proofs.content.copy_all.Given as goal

abbrev pub invariant-loop-content : goal.invariant-loop-content
invariant-loop-content l = map content_value l.copies.items ≡ map content_value (take l.content-index l.contents)
