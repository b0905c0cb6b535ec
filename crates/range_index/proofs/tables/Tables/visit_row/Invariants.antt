use Rattle.std.proofs.Common.{◌≤◌, ◌-◌, ◌/◌}
use Rattle.range_index.specs.Grids.{entry_at, AddsFound}
use Rattle.range_index.proofs.GridLemmas.{IsLeftOf}
use Rattle.range_index.proofs.tables.Tables.visit_row.Given as goal

abbrev pub invariant-loop-col : goal.invariant-loop-col
invariant-loop-col l =
    ((l.q.head.col - l.width) / l.width ≤ l.col)
    × AddsFound (entry_at l.self) (IsLeftOf l.q l.height l.width l.row l.col) l.q l.fn.out.items l.out.items
