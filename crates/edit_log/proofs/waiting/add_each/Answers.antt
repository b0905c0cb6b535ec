use Rattle.std.proofs.Common.{ℕ, List, subst}
use Rattle.std.proofs.lemmas.List.{take_all}
use Rattle.edit_log.specs.Waiting.{AddsPairsAt}
use Rattle.edit_log.proofs.WaitingLemmas.{adds_next, none_at}
use Rattle.edit_log.proofs.waiting.add_each.Goals as goal

pub loop-place-init : goal.loop-place-init
loop-place-init g c = none_at c.args.sheet.now (g.G.Graph.pairs c.args.graph.now)

pub loop-place-preserved : goal.loop-place-preserved
loop-place-preserved g c =
    adds_next c.args.sheet.now c.args.places.now c.loop-place.place-index _ c.cell_there-cell.result
    (g.G.Graph.pairs c.args.graph.now) (g.G.Graph.pairs c.loop-place.graph) (g.G.Graph.pairs c.add_alone.new.graph) c.at.result.now
    c.loop-place-test.true c.cell_there-cell.ensures.place c.cell_there-cell.ensures.inside c.requires.pairs c.loop-place.invariant
    c.at.ensures.once c.in_ok-add_alone.ensures

pub returns : goal.returns
returns g c =
    subst (λ (places : List ℕ). AddsPairsAt c.args.sheet.now places (g.G.Graph.pairs c.args.graph.now) (g.G.Graph.pairs c.loop-place.graph))
    (take_all c.loop-place.place-index c.args.places.now c.loop-place-test.false) c.loop-place.invariant
