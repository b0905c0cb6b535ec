use Rattle.tree_index.specs.Indexes.{node_at}
use Rattle.tree_index.specs.Changes.{Admits, HasPlace, Rearranges}
use Rattle.tree_index.proofs.nodes.Tree.leaf_from_root.Given as goal

abbrev pub invariant-loop : goal.invariant-loop
invariant-loop l = Rearranges l.initial.self l.self × HasPlace l.self l.key × Admits (node_at l.self) l.key l.range
