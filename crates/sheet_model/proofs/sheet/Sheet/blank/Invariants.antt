use Rattle.std.proofs.Common.{◌≡◌, replicate}
use Rattle.sheet_model.specs.declared.content.Content.TheVariants.{Empty}
use Rattle.sheet_model.proofs.sheet.Sheet.blank.Given as goal

abbrev pub invariant-loop : goal.invariant-loop
invariant-loop l = l.contents.items ≡ replicate l.counter Empty
