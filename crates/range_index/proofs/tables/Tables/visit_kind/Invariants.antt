use Rattle.std.proofs.Common.{◌≤◌, ◌-◌, ◌/◌}
use Rattle.range_index.specs.Grids.{entry_at, AddsFound}
use Rattle.range_index.proofs.GridLemmas.{IsAbove}
use Rattle.range_index.proofs.tables.Tables.visit_kind.Given as goal

abbrev pub invariant-loop-row : goal.invariant-loop-row
invariant-loop-row l =
    ((l.q.head.row - l.height) / l.height ≤ l.row)
    × AddsFound (entry_at l.self) (IsAbove l.q l.height l.width l.row) l.q l.fn.out.items l.out.items
