use Rattle.std.proofs.Common.{ℕ, ◌<◌, get_or, []}
use Rattle.std.specs.Prelude.{IsUtf8}
use Rattle.csv.specs.Records.{fields_of}
use Rattle.csv_sheet.proofs.extent.is_text.Given as goal

abbrev pub invariant-loop-col : goal.invariant-loop-col
invariant-loop-col l = (k : ℕ) → k < l.col → IsUtf8 (get_or (fields_of l.fields) k [])
