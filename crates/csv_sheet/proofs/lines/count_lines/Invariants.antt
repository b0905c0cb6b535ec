use Rattle.std.proofs.Common.{length}
use Rattle.csv_sheet.specs.Lines.{HasCounted}
use Rattle.csv_sheet.proofs.lines.count_lines.Given as goal

abbrev pub invariant-loop-left : goal.invariant-loop-left
invariant-loop-left l = HasCounted l.fn.text l.left l.lines

abbrev pub decreases-loop-left : goal.decreases-loop-left
decreases-loop-left l = length l.left
