use Rattle.std.proofs.Common.{◌≡◌, ◌-◌, ◌<◌, ◌≤◌, ◌++◌}
use Rattle.std.specs.List.{All}
use Rattle.sheet_refs.specs.Bands.{ranges_in, rows_at}
use Rattle.sheet_refs.specs.Rectangles.{AreMaximalRuns}
use Rattle.sheet_refs.proofs.bands.push_band.Given as goal

abbrev pub invariant-loop-place : goal.invariant-loop-place
invariant-loop-place l =
    (l.col ≤ l.place)
    × (l.ranges.items ≡ l.initial.ranges.items ++ ranges_in (rows_at l.bands) l.col (l.place - l.col))
    × AreMaximalRuns l.ranges.items
    × All (λ r. r.tail.col < l.place) l.ranges.items
