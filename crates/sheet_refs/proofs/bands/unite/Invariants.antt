use Rattle.std.proofs.Common.{◌≡◌, ◌+◌, ◌-◌, ◌≤◌, ℕ}
use Rattle.sheet_refs.specs.Bands.{rows_at}
use Rattle.sheet_refs.proofs.bands.unite.Given as goal

abbrev pub invariant-loop-next : goal.invariant-loop-next
invariant-loop-next l = (1 ≤ l.col) × (l.col ≤ l.end + 1) × ((other : ℕ) → rows_at l.bands other ≡ rows_at l.initial.bands other)

abbrev pub decreases-loop-next : goal.decreases-loop-next
decreases-loop-next l = l.end + 1 - l.col
