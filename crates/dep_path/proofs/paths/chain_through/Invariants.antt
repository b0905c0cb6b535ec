use Rattle.std.proofs.Common.{length, map, reverse}
use Rattle.dep_path.proofs.LevelLemmas.{IsComingBack}
use Rattle.dep_path.proofs.paths.chain_through.Given as goal

abbrev pub invariant-loop-level : goal.invariant-loop-level
invariant-loop-level g l = IsComingBack (g.G.Graph.pairs l.graph) l.fn.from l.fn.to l.cell (reverse l.chain.items)
    (reverse (map (λ level. level.items) l.left.items))

abbrev pub decreases-loop-level : goal.decreases-loop-level
decreases-loop-level g l = length l.left.items
