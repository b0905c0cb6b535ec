use Rattle.std.proofs.Common.{length, take}
use Rattle.range_index.specs.Entries.{AddsOverlapping}
use Rattle.range_index.specs.Grids.{entries_in}
use Rattle.range_index.proofs.tables.Tables.visit_all.Given as goal

abbrev pub invariant-loop-item : goal.invariant-loop-item
invariant-loop-item l = AddsOverlapping (take (length l.yielded) (entries_in l.self)) l.q l.fn.out.items l.out.items
