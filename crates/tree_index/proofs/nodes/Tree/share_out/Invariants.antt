use Rattle.tree_index.specs.Changes.{KeepAllNodes, MayShare, Rearranges}
use Rattle.tree_index.proofs.nodes.Tree.share_out.Given as goal

abbrev pub invariant-loop-place : goal.invariant-loop-place
invariant-loop-place l = Rearranges l.initial.self l.self × KeepAllNodes l.initial.self l.self × MayShare l.self l.level l.from l.to
