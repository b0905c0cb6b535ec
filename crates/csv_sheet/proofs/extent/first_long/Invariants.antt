use Rattle.std.proofs.Common.{ℕ, ◌<◌, get_or, []}
use Rattle.csv.specs.Records.{fields_of}
use Rattle.csv_sheet.specs.Results.{IsLong}
use Rattle.csv_sheet.proofs.extent.first_long.Given as goal

abbrev pub invariant-loop-col : goal.invariant-loop-col
invariant-loop-col l = (k : ℕ) → k < l.col → ¬ IsLong (get_or (fields_of l.fields) k [])
