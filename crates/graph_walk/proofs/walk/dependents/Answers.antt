use Rattle.sheet_refs.proofs.RunLemmas.{if_ok_map}
use Rattle.graph_walk.specs.Graphs.{Step}
use Rattle.graph_walk.proofs.WalkLemmas.{reached_range}
use Rattle.graph_walk.proofs.walk.dependents.Goals as goal

pub returns : goal.returns
returns g c =
    if_ok_map c.walk.result _ _
    (λ set known cell. let same = reached_range (Step (g.G.Graph.pairs c.args.graph.now)) c.args.q cell in
    (λ among. same.0 ((known cell).0 among), λ reached. (known cell).1 (same.1 reached)))
    c.walk.ensures
