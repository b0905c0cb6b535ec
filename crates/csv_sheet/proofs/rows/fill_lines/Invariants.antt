use Rattle.std.proofs.Common.{◌+◌, ◌*◌, length}
use Rattle.csv_sheet.specs.Filling.{HasPutParts}
use Rattle.csv_sheet.proofs.rows.fill_lines.Given as goal

abbrev pub invariant-loop-part : goal.invariant-loop-part
invariant-loop-part g l = HasPutParts l.fn.text l.part l.behind l.fn.edition l.ahead.items l.filled

abbrev pub decreases-loop-part : goal.decreases-loop-part
decreases-loop-part g l = length l.part + 2 * length l.behind
