use Rattle.std.proofs.Common.{◌≡◌, ◌∷◌, ◌∙◌, refl, subst, sym, ap, take}
use Rattle.sheet_refs.specs.Cells.{Position}
use Rattle.graph_walk.specs.Graphs.{Step}
use Rattle.dep_path.specs.Chains.{IsChain}
use Rattle.dep_path.specs.Laws.{last_of}
use Rattle.dep_path.proofs.ChainLemmas.{chain_at, chain_more, last_more}
use Rattle.dep_path.proofs.StepLemmas.{take_all, take_more}
use Rattle.dep_path.proofs.chains.is_chain.Goals as goal

pub returns-then-not-branch : goal.returns-then-not-branch
returns-then-not-branch g c =
    let pairs = g.G.Graph.pairs c.args.graph.now in
    let first = c.in-Some.first.now in
    let whole : c.args.cells.now ≡ first ∷ c.in-Some.rest.now = c.in-Some.ensures.cases.0 in
    let before = (c.loop-cell.invariant first whole).1 in (
      (λ no. absurd (cc)),
      (λ chain.
          let step = chain_at pairs first c.cell-item.result c.in-Some.rest.now c.loop-cell.cell-index
          c.loop-cell-test.true c.cell-item.is (subst (IsChain pairs) whole chain) in
          let is = c.in_ok-depends_directly.ensures.1 (subst (λ (on : Position). Step pairs on c.cell-item.result) before step) in
          sym c.if-not-branch.true ∙ is),
    )

pub loop-cell-preserved : goal.loop-cell-preserved
loop-cell-preserved g c = λ first whole.
    let pairs = g.G.Graph.pairs c.args.graph.now in
    let (chain, before) = c.loop-cell.invariant first whole in
    let step = c.in_ok-depends_directly.ensures.0 c.if-not-branch.false in
    let more = take_more c.in-Some.rest.now c.loop-cell.cell-index c.cell-item.result c.loop-cell-test.true c.cell-item.is in (
      subst (λ l. IsChain pairs (first ∷ l)) (sym more) (chain_more pairs first c.cell-item.result _ chain
          (subst (λ (on : Position). Step pairs on c.cell-item.result) (sym before) step)),
      ap (last_of first) more ∙ last_more first c.cell-item.result (take c.loop-cell.cell-index c.in-Some.rest.now),
    )

pub returns : goal.returns
returns g c =
    let pairs = g.G.Graph.pairs c.args.graph.now in
    let first = c.in-Some.first.now in
    let whole : c.args.cells.now ≡ first ∷ c.in-Some.rest.now = c.in-Some.ensures.cases.0 in
    let all = take_all c.in-Some.rest.now c.loop-cell.cell-index c.loop-cell-test.false in (
      (λ yes. subst (IsChain pairs) (sym whole) (subst (λ l. IsChain pairs (first ∷ l)) all (c.loop-cell.invariant first whole).0)),
      (λ chain. refl),
    )
