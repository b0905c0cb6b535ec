use Rattle.csv_sheet.specs.Filling.{IsLineFilled}
use Rattle.csv_sheet.proofs.rows.fill_line.Given as goal

abbrev pub invariant-loop-col : goal.invariant-loop-col
invariant-loop-col l = IsLineFilled l.row l.fn.line l.left l.col l.fn.sheet l.sheet l.fn.known l.known
