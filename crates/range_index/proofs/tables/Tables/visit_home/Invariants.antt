use Rattle.std.proofs.Common.{◌≡◌, ◌<◌}
use Rattle.range_index.specs.Grids.{entry_at, AddsFound}
use Rattle.range_index.proofs.tables.Tables.visit_home.Given as goal

abbrev pub invariant-loop-place : goal.invariant-loop-place
invariant-loop-place l = AddsFound (entry_at l.self) (λ s. (s.home ≡ l.home) × (s.place < l.place)) l.q l.fn.out.items l.out.items
