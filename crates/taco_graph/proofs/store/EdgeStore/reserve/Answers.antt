use Rattle.std.proofs.Common.{◌≡◌, List, Option, refl, sym, ap, subst}
use Rattle.edge_patterns.specs.Edges.{EdgeValue}
use Rattle.slab.specs.Slab.{Slab}
use Rattle.taco_graph.specs.Stores.{AreStored}
use Rattle.taco_graph.proofs.StoreLemmas.{same_stored, same_all}
use Rattle.taco_graph.proofs.store.EdgeStore.reserve.Goals as goal

pub invariant_of-self-in_err-reserve-2 : goal.invariant_of-self-in_err-reserve-2
invariant_of-self-in_err-reserve-2 g c =
    let runs = g.I.RangeIndex.entries c.self.inside.runs in
    let new_runs = g.I.RangeIndex.entries c.reserve-2.new.self in
    let rectangles = c.self.inside.rectangles in
    let slots : c.reserve.new.self.slots ≡ c.self.inside.edges.slots = ap (λ (s : Slab EdgeValue). s.slots) c.reserve.ensures.rest_kept in
    subst (λ (ss : List (Option EdgeValue)). AreStored ss new_runs rectangles) (sym slots)
    (same_stored c.self.inside.edges.slots runs new_runs rectangles rectangles c.reserve-2.ensures.same refl (same_all rectangles.entries) c.self.invariant)

pub invariant_of-self-in_err-reserve-3 : goal.invariant_of-self-in_err-reserve-3
invariant_of-self-in_err-reserve-3 g c =
    let runs = g.I.RangeIndex.entries c.self.inside.runs in
    let new_runs = g.I.RangeIndex.entries c.reserve-2.new.self in
    let rectangles = c.self.inside.rectangles in
    let new_rectangles = c.reserve-3.new.self in
    let slots : c.reserve.new.self.slots ≡ c.self.inside.edges.slots = ap (λ (s : Slab EdgeValue). s.slots) c.reserve.ensures.rest_kept in
    subst (λ (ss : List (Option EdgeValue)). AreStored ss new_runs new_rectangles) (sym slots)
    (same_stored c.self.inside.edges.slots runs new_runs rectangles new_rectangles c.reserve-2.ensures.same
    c.reserve-3.ensures.kept c.reserve-3.ensures.same c.self.invariant)

pub invariant_of-self-2 : goal.invariant_of-self-2
invariant_of-self-2 g c =
    let runs = g.I.RangeIndex.entries c.self.inside.runs in
    let new_runs = g.I.RangeIndex.entries c.reserve-2.new.self in
    let rectangles = c.self.inside.rectangles in
    let new_rectangles = c.reserve-3.new.self in
    let slots : c.reserve.new.self.slots ≡ c.self.inside.edges.slots = ap (λ (s : Slab EdgeValue). s.slots) c.reserve.ensures.rest_kept in
    subst (λ (ss : List (Option EdgeValue)). AreStored ss new_runs new_rectangles) (sym slots)
    (same_stored c.self.inside.edges.slots runs new_runs rectangles new_rectangles c.reserve-2.ensures.same
    c.reserve-3.ensures.kept c.reserve-3.ensures.same c.self.invariant)
