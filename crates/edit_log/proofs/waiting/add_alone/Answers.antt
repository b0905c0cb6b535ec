use Rattle.std.proofs.Common.{List, subst}
use Rattle.sheet_refs.specs.Cells.{Corners}
use Rattle.graph_walk.specs.Graphs.{Replaces}
use Rattle.edit_log.proofs.PairLemmas.{replaced_alone}
use Rattle.edit_log.proofs.waiting.add_alone.Goals as goal

pub returns : goal.returns
returns g c =
    let old = g.G.Graph.pairs c.args.graph.now in
    let new = g.G.Graph.pairs c.replace.new.self in
    subst (λ (r : List Corners). Replaces old new c.args.cell r) c.in_ok-refs.ensures
    (replaced_alone old (g.G.Graph.pairs c.reserve.new.self) new c.args.cell c.in_ok-refs.refs c.in_ok-reserve.ensures.same
    c.replace.ensures.replaced)
