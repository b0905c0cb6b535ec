use Rattle.std.proofs.Common.{◌≡◌, List, Option, sym, ◌∙◌, ap, subst}
use Rattle.edge_patterns.specs.Edges.{EdgeValue}
use Rattle.taco_graph.specs.Stores.{AreEdgesApart, StoreValue, edges_of}
use Rattle.taco_graph.proofs.EdgeListLemmas.{stored_apart}
use Rattle.taco_graph.proofs.GraphLemmas.{edges_more, edges_passed}
use Rattle.taco_graph.proofs.store.EdgeStore.edges.Goals as goal
use Rattle.taco_graph.proofs.store.EdgeStore.edges.Goals.{in-Some+in_ok-push, in_default}

pub loop-key-preserved : goal.loop-key-preserved
loop-key-preserved g c = elim c.match-get.branch [
  | in-Some+in_ok-push w ↦
      rw w.edges-is (edges_more c.args.self.now.slots c.loop-key.key c.loop-key.edges.items w.push.new.self.items
      w.in-Some.edge (sym c.get.ensures.edge ∙ w.in-Some.is) w.in_ok-push.ensures.items c.loop-key.invariant)
  | in_default w ↦
      rw w.edges-is (edges_passed c.args.self.now.slots c.loop-key.key c.loop-key.edges.items (sym c.get.ensures.edge
      ∙ w.in_default.is) c.loop-key.invariant)
]

pub returns-in_err-push-clause-apart : goal.returns-in_err-push-clause-apart
returns-in_err-push-clause-apart g c =
    let view : c.self.inside.edges.slots ≡ c.args.self.now.slots = ap (λ (v : StoreValue). v.slots) c.self.view_is in
    subst (λ (slots : List (Option EdgeValue)). AreEdgesApart (edges_of slots)) view
    (stored_apart c.self.inside.edges.slots c.self.invariant.edges c.self.invariant.apart)

pub returns-clause-apart : goal.returns-clause-apart
returns-clause-apart g c =
    let view : c.self.inside.edges.slots ≡ c.args.self.now.slots = ap (λ (v : StoreValue). v.slots) c.self.view_is in
    subst (λ (slots : List (Option EdgeValue)). AreEdgesApart (edges_of slots)) view
    (stored_apart c.self.inside.edges.slots c.self.invariant.edges c.self.invariant.apart)
