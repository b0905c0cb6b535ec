use Rattle.std.proofs.Common.{◌≡◌, ap, subst}
use Rattle.taco_graph.specs.Stores.{StoreValue, AreEdges, EdgesDiffer}
use Rattle.taco_graph.proofs.AnswerLemmas.{edges_differ, names_dependents, names_precedents, names_ahead, names_behind}
use Rattle.taco_graph.proofs.store.EdgeStore.keys_for.Goals as goal
use Rattle.taco_graph.proofs.store.EdgeStore.keys_for.Goals.{in-Dependents+in_ok-keys-in-Dependents, in-Precedents+in_ok-keys-in-Precedents}
use Rattle.taco_graph.proofs.store.EdgeStore.keys_for.Goals.{in-Ahead+in_ok-keys-in-Ahead, in-Behind+in_ok-keys-in-Behind}

pub returns-clause-named : goal.returns-clause-named
returns-clause-named g c =
    let slots = c.args.self.now.slots in
    let edges : AreEdges slots = subst (λ (s : StoreValue). AreEdges s.slots) c.self.view_is c.self.invariant.edges in
    elim c.match-question.branch [
      | in-Dependents+in_ok-keys-in-Dependents w ↦
          rw (w.in-Dependents.is, w.keys-is) (names_dependents slots c.args.q _ edges w.in_ok-keys-in-Dependents.ensures.named)
      | in-Precedents+in_ok-keys-in-Precedents w ↦
          rw (w.in-Precedents.is, w.keys-is) (names_precedents slots c.args.q _ edges w.in_ok-keys-in-Precedents.ensures.named)
      | in-Ahead+in_ok-keys-in-Ahead w ↦
          rw (w.in-Ahead.is, w.keys-is) (names_ahead slots c.args.q _ edges w.in_ok-keys-in-Ahead.ensures.named)
      | in-Behind+in_ok-keys-in-Behind w ↦
          rw (w.in-Behind.is, w.keys-is) (names_behind slots c.args.q _ edges w.in_ok-keys-in-Behind.ensures.named)
    ]

pub returns-clause-differ : goal.returns-clause-differ
returns-clause-differ g c =
    let view : c.self.inside.edges.slots ≡ c.args.self.now.slots = ap (λ (v : StoreValue). v.slots) c.self.view_is in
    subst EdgesDiffer view (edges_differ c.self.inside.edges.slots (g.I.RangeIndex.entries c.self.inside.runs)
    c.self.inside.rectangles c.self.invariant)
