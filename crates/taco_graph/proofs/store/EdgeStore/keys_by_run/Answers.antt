use Rattle.std.proofs.Common.{◌≡◌, List, Option, ap, subst}
use Rattle.std.specs.Prelude.{OnOk}
use Rattle.edge_patterns.specs.Edges.{EdgeValue}
use Rattle.taco_graph.specs.Stores.{AreEdges, StoreValue, NamesOverlapping}
use Rattle.taco_graph.proofs.StoreLemmas.{names_runs}
use Rattle.taco_graph.proofs.store.EdgeStore.keys_by_run.Goals as goal

pub returns-clause-named : goal.returns-clause-named
returns-clause-named g c =
    let view : c.self.inside.edges.slots ≡ c.args.self.now.slots = ap (λ (v : StoreValue). v.slots) c.self.view_is in
    subst (λ (slots : List (Option EdgeValue)). OnOk c.overlapping.result (NamesOverlapping slots c.args.q c.overlapping.new.out.items)) view
    (names_runs c.overlapping.result c.self.inside.edges.slots (g.I.RangeIndex.entries c.self.inside.runs)
    c.self.inside.rectangles c.args.q c.args.keys.now.items c.overlapping.new.out.items
    c.self.invariant c.overlapping.ensures.found)

pub returns-clause-edges : goal.returns-clause-edges
returns-clause-edges g c =
    let view : c.self.inside.edges.slots ≡ c.args.self.now.slots = ap (λ (v : StoreValue). v.slots) c.self.view_is in
    subst (λ (slots : List (Option EdgeValue)). AreEdges slots) view c.self.invariant.edges
