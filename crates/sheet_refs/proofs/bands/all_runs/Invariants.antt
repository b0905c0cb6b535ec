use Rattle.std.proofs.Common.{◌≡◌, ◌-◌, ◌<◌, ◌≤◌, ◌++◌}
use Rattle.std.specs.List.{All}
use Rattle.sheet_refs.specs.Bands.{all_ranges, ranges_in, rows_at}
use Rattle.sheet_refs.specs.Rectangles.{AreMaximalRuns}
use Rattle.sheet_refs.proofs.bands.all_runs.Given as goal

abbrev pub invariant-loop-col : goal.invariant-loop-col
invariant-loop-col l =
    (1 ≤ l.col)
    × (l.col ≤ 16385)
    × (l.runs.items ++ ranges_in (rows_at l.bands) l.col (16385 - l.col) ≡ all_ranges (rows_at l.bands))
    × AreMaximalRuns l.runs.items
    × All (λ r. r.tail.col < l.col) l.runs.items

abbrev pub decreases-loop-col : goal.decreases-loop-col
decreases-loop-col l = 16385 - l.col
