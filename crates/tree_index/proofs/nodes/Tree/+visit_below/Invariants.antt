use Rattle.std.proofs.Common.{◌-◌, take}
use Rattle.tree_index.specs.Indexes.{node_at}
use Rattle.tree_index.specs.Changes.{AddsThose}
use Rattle.tree_index.proofs.UnderLemmas.{IsUnderOne}
use Rattle.tree_index.proofs.nodes.Tree.+visit_below.Given as goal

abbrev pub decreases-visit_below : goal.decreases-visit_below
decreases-visit_below l = l.level

abbrev pub invariant-loop-child : goal.invariant-loop-child
invariant-loop-child l = AddsThose (IsUnderOne (node_at l.self) (l.level - 1) (take l.child-index l.child-items)) l.q l.fn.out.items l.out.items
