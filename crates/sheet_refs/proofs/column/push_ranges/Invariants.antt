use Rattle.std.proofs.Common.{◌≡◌, ◌++◌}
use Rattle.sheet_refs.specs.Runs.{column_ranges}
use Rattle.sheet_refs.proofs.column.push_ranges.Given as goal

abbrev pub invariant-loop-first : goal.invariant-loop-first
invariant-loop-first l = l.ranges.items ++ column_ranges l.col l.first-iterator ≡ l.initial.ranges.items ++ column_ranges l.col l.runs.entries
