use Rattle.std.proofs.Common.{◌≤◌, length}
use Rattle.std.specs.Str.{IsAscii}
use Rattle.csv_sheet.specs.Ahead.{HasReadAhead}
use Rattle.csv_sheet.proofs.ahead.read_lines.Given as goal

abbrev pub invariant-loop-left : goal.invariant-loop-left
invariant-loop-left l = HasReadAhead l.fn.edition l.fn.text l.left l.ahead.items × IsAscii l.left × (length l.left ≤ length l.fn.text)

abbrev pub decreases-loop-left : goal.decreases-loop-left
decreases-loop-left l = length l.left
