use Rattle.std.proofs.Common.{take}
use Rattle.range_index.specs.Entries.{AddsOverlapping}
use Rattle.tree_index.proofs.finding.visit_items.Given as goal

abbrev pub invariant-loop-item : goal.invariant-loop-item
invariant-loop-item l = AddsOverlapping (take l.item-index l.items) l.q l.fn.out.items l.out.items
