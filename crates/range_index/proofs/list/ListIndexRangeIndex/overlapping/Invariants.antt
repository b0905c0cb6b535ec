use Rattle.std.proofs.Common.{take}
use Rattle.range_index.specs.Entries.{AddsOverlapping}
use Rattle.range_index.proofs.list.ListIndexRangeIndex.overlapping.Given as goal

abbrev pub invariant-loop-slot : goal.invariant-loop-slot
invariant-loop-slot l = AddsOverlapping (take l.slot-index l.slot-items) l.q l.fn.out.items l.out.items
