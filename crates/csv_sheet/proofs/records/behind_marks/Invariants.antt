use Rattle.std.proofs.Common.{◌≡◌, length}
use Rattle.csv_sheet.specs.Records.{without_marks}
use Rattle.csv_sheet.proofs.records.behind_marks.Given as goal

abbrev pub invariant-loop-behind : goal.invariant-loop-behind
invariant-loop-behind l = without_marks l.rest ≡ without_marks l.fn.text

abbrev pub decreases-loop-behind : goal.decreases-loop-behind
decreases-loop-behind l = length l.rest
