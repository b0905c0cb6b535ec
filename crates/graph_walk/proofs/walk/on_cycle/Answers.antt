use Rattle.std.proofs.Common.{◌↔◌}
use Rattle.sheet_refs.specs.Rectangles.{IsAmong}
use Rattle.graph_walk.specs.Graphs.{Step}
use Rattle.graph_walk.specs.Paths.{IsReached}
use Rattle.graph_walk.proofs.WalkLemmas.{reached_again}
use Rattle.graph_walk.proofs.walk.on_cycle.Goals as goal

pub returns : goal.returns
returns g c =
    let step = Step (g.G.Graph.pairs c.args.graph.now) in
    let known : IsAmong c.in_ok-reached.reached c.args.cell
    ↔ IsReached step (IsAmong c.ahead.new.out.items) c.args.cell =
    rw (← c.deref.ensures.value) (c.in_ok-reached.ensures c.args.cell) in
    let again = reached_again step c.args.cell c.of.result c.new-next.result.items c.ahead.new.out.items
    c.of.ensures.corners c.new-next.ensures.items c.in_ok-ahead.ensures.found in
    (λ on. again.0 (known.0 (c.contains.ensures.0 on)), λ leads. c.contains.ensures.1 (known.1 (again.1 leads)))
