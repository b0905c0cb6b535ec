use Rattle.std.proofs.Common.{◌≡◌, List, Option, ap, subst}
use Rattle.edge_patterns.specs.Edges.{EdgeValue}
use Rattle.taco_graph.specs.Stores.{StoreValue, NamesOverlapping}
use Rattle.taco_graph.proofs.StoreLemmas.{names}
use Rattle.taco_graph.proofs.store.EdgeStore.keys_of_runs.Goals as goal

pub returns-clause-named : goal.returns-clause-named
returns-clause-named g c =
    let view : c.self.inside.edges.slots ≡ c.args.self.now.slots = ap (λ (v : StoreValue). v.slots) c.self.view_is in
    subst (λ (slots : List (Option EdgeValue)). NamesOverlapping slots c.args.q c.overlapping.new.out.items) view
    (names c.self.inside.edges.slots (λ edge. edge.dep) (g.I.RangeIndex.entries c.self.inside.runs) c.args.q c.new-keys.result.items
    c.overlapping.new.out.items c.self.invariant.runs_filed c.in_ok-overlapping.ensures.found)
