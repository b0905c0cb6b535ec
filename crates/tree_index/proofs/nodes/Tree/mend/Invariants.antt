use Rattle.tree_index.specs.Changes.{Rearranges}
use Rattle.tree_index.proofs.nodes.Tree.mend.Given as goal

abbrev pub invariant-loop : goal.invariant-loop
invariant-loop l = Rearranges l.initial.self l.self
