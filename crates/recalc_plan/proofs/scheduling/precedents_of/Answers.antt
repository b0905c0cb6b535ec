use Rattle.std.proofs.Common.{List, subst}
use Rattle.sheet_refs.specs.Cells.{Corners}
use Rattle.graph_walk.specs.Graphs.{AddsDirectPrecedents}
use Rattle.recalc_plan.proofs.OpeningLemmas.{exact_precedents}
use Rattle.recalc_plan.proofs.scheduling.precedents_of.Goals as goal

pub returns : goal.returns
returns g c =
    let pairs = g.G.Graph.pairs c.args.graph.now in
    exact_precedents pairs c.of.result c.args.cell c.direct_precedents.new.out.items c.of.ensures.both.0 c.of.ensures.smallest
    (subst (λ (l : List Corners). AddsDirectPrecedents pairs c.of.result l c.direct_precedents.new.out.items)
    c.new-ranges.ensures.items c.in_ok-direct_precedents.ensures.found)
