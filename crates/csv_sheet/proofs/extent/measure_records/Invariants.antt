use Rattle.std.proofs.Common.{◌≤◌, Some}
use Rattle.csv_sheet.specs.Records.{Rows}
use Rattle.csv_sheet.specs.Reading.{HasReadRecords, Measures}
use Rattle.csv_sheet.proofs.extent.measure_records.Given as goal

abbrev pub invariant-loop : goal.invariant-loop
invariant-loop l = (rows : Rows) × HasReadRecords (λ s. Some s.now) l.fn.text rows l.reader × Measures rows l.extent × (l.extent.rows ≤ l.counter)
