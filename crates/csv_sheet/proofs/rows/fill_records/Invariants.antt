use Rattle.std.proofs.Common.{Some}
use Rattle.csv_sheet.specs.Filling.{HasFilled}
use Rattle.csv_sheet.proofs.rows.fill_records.Given as goal

abbrev pub invariant-loop-row : goal.invariant-loop-row
invariant-loop-row l = HasFilled (λ s. Some s.now) l.fn.text l.row l.fn.sheet l.sheet l.reader
