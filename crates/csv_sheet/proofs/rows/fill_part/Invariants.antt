use Rattle.std.proofs.Common.{length}
use Rattle.csv_sheet.specs.Filling.{HasPutLines}
use Rattle.csv_sheet.proofs.rows.fill_part.Given as goal

abbrev pub invariant-loop-left : goal.invariant-loop-left
invariant-loop-left l = HasPutLines l.fn.part l.left l.fn.row l.row l.fn.sheet l.sheet l.known

abbrev pub decreases-loop-left : goal.decreases-loop-left
decreases-loop-left l = length l.left
