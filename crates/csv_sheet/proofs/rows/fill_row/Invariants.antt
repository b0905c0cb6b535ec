use Rattle.csv.specs.Records.{fields_of}
use Rattle.csv_sheet.specs.Filling.{IsPartFilled}
use Rattle.csv_sheet.proofs.rows.fill_row.Given as goal

abbrev pub invariant-loop-col : goal.invariant-loop-col
invariant-loop-col l = IsPartFilled l.row (fields_of l.fields) l.col l.fn.sheet l.sheet
