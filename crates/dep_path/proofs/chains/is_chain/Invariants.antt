use Rattle.std.proofs.Common.{◌≡◌, ◌∷◌, take}
use Rattle.sheet_refs.specs.Cells.{Position}
use Rattle.dep_path.specs.Chains.{IsChain}
use Rattle.dep_path.specs.Laws.{last_of}
use Rattle.dep_path.proofs.chains.is_chain.Given as goal

abbrev pub invariant-loop-cell : goal.invariant-loop-cell
invariant-loop-cell g l = (first : Position) → l.cells ≡ first ∷ l.rest
    → IsChain (g.G.Graph.pairs l.graph) (first ∷ take l.cell-index l.rest) × (last_of first (take l.cell-index l.rest) ≡ l.before)
