use Rattle.std.proofs.Common.{ℕ, ◌<◌, get_or}
use Rattle.sheet_refs.specs.Cells.{Corners}
use Rattle.edit_log.specs.Runs.{RangeFollows}
use Rattle.edit_log.proofs.runs.follow.Given as goal

abbrev pub invariant-loop-place : goal.invariant-loop-place
invariant-loop-place l =
    (place : ℕ) (d : Corners) → place < l.place → RangeFollows l.count (get_or l.first place d) (get_or l.last place d) (get_or l.next place d)
