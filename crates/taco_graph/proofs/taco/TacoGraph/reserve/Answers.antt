use Rattle.std.proofs.Common.{◌≡◌, List, ◌∙◌, ap, subst}
use Rattle.edge_patterns.specs.Edges.{EdgeValue}
use Rattle.graph_walk.specs.Graphs.{SamePairs}
use Rattle.taco_graph.specs.Pairs.{pairs_of}
use Rattle.taco_graph.specs.Stores.{edges_of}
use Rattle.taco_graph.specs.Taco.{TacoValue}
use Rattle.taco_graph.proofs.taco.TacoGraph.reserve.Goals as goal

pub returns-clause-same : goal.returns-clause-same
returns-clause-same g c =
    let same : edges_of c.reserve.new.self.slots ≡ edges_of c.self.inside.store.slots = ap edges_of c.reserve.ensures.same in
    let view : edges_of c.self.inside.store.slots ≡ c.args.self.now.edges = ap (λ (t : TacoValue). t.edges) c.self.view_is in
    subst (λ (es : List EdgeValue). SamePairs (pairs_of es) (pairs_of (edges_of c.reserve.new.self.slots))) (same ∙ view) (λ pair. (λ has. has, λ has. has))

pub returns-in_err-reserve_lists-clause-same : goal.returns-in_err-reserve_lists-clause-same
returns-in_err-reserve_lists-clause-same g c =
    let same : edges_of c.reserve.new.self.slots ≡ edges_of c.self.inside.store.slots = ap edges_of c.reserve.ensures.same in
    let view : edges_of c.self.inside.store.slots ≡ c.args.self.now.edges = ap (λ (t : TacoValue). t.edges) c.self.view_is in
    subst (λ (es : List EdgeValue). SamePairs (pairs_of es) (pairs_of (edges_of c.reserve.new.self.slots))) (same ∙ view) (λ pair. (λ has. has, λ has. has))
