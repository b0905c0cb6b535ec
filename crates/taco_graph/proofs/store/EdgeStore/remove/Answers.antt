use Rattle.std.proofs.Common.{◌≡◌, List, Option, Contains, sym, ap, subst}
use Rattle.sheet_refs.specs.Cells.{Corners}
use Rattle.edge_patterns.specs.Edges.{EdgeValue}
use Rattle.range_index.specs.Entries.{entry_of}
use Rattle.taco_graph.specs.Stores.{StoreValue, LeavesApart}
use Rattle.taco_graph.proofs.StoreLemmas.{is_listed, stored_less, leaves_apart}
use Rattle.taco_graph.proofs.store.EdgeStore.remove.Goals as goal

pub remove-requires : goal.remove-requires
remove-requires g c =
    let runs = g.I.RangeIndex.entries c.self.inside.runs in
    record {
      there =
          subst (λ (r : Corners). Contains runs (entry_of c.args.key r)) (sym c.dep.ensures.dep)
          (is_listed c.self.inside.edges.slots (λ edge. edge.dep) runs c.args.key c.remove-edge.result c.self.invariant.runs_filed c.remove-edge.ensures.value);
    }

pub remove-requires-2 : goal.remove-requires-2
remove-requires-2 g c =
    let rectangles = c.self.inside.rectangles.entries in
    λ kept. subst (λ (r : Corners). Contains rectangles (entry_of c.args.key r)) (sym c.prec.ensures.prec)
    (is_listed c.self.inside.edges.slots (λ edge. edge.prec) rectangles c.args.key c.remove-edge.result
    (c.self.invariant.rectangles_filed kept) c.remove-edge.ensures.value)

pub invariant_of-self : goal.invariant_of-self
invariant_of-self g c =
    let updates = c.remove-edge.ensures.updates in
    stored_less c.self.inside.edges.slots c.remove-edge.new.self.slots
    (g.I.RangeIndex.entries c.self.inside.runs) (g.I.RangeIndex.entries c.remove.new.self)
    c.self.inside.rectangles c.remove-2.new.self
    c.args.key (record { changed = updates.changed; others = updates.others })
    c.remove.ensures.removed c.remove-2.ensures.kept c.remove-2.ensures.removed c.self.invariant

pub returns-clause-apart : goal.returns-clause-apart
returns-clause-apart g c =
    let updates = c.remove-edge.ensures.updates in
    let view : c.self.inside.edges.slots ≡ c.args.self.now.slots = ap (λ (v : StoreValue). v.slots) c.self.view_is in
    subst (λ (slots : List (Option EdgeValue)). LeavesApart slots c.remove-edge.new.self.slots c.args.key) view
    (leaves_apart c.self.inside.edges.slots c.remove-edge.new.self.slots
    (g.I.RangeIndex.entries c.self.inside.runs) c.self.inside.rectangles
    c.args.key c.self.invariant (record { changed = updates.changed; others = updates.others }))
