use Rattle.std.proofs.Common.{◌≡◌, List, Option, Some, Contains, sym, ap, subst}
use Rattle.std.specs.Prelude.{slice_set}
use Rattle.sheet_refs.specs.Cells.{Corners}
use Rattle.edge_patterns.specs.Edges.{EdgeValue}
use Rattle.range_index.specs.Entries.{ChangesRange, entry_of}
use Rattle.taco_graph.specs.Stores.{StoreValue, IsApartBeside}
use Rattle.taco_graph.proofs.StoreLemmas.{is_listed, puts_by_write, stored_changed}
use Rattle.taco_graph.proofs.store.EdgeStore.change.Goals as goal

pub change-requires-clause-there : goal.change-requires-clause-there
change-requires-clause-there g c =
    let runs = g.I.RangeIndex.entries c.self.inside.runs in
    subst (λ (r : Corners). Contains runs (entry_of c.args.key r)) (sym c.dep.ensures.dep)
    (is_listed c.self.inside.edges.slots (λ edge. edge.dep) runs c.args.key c.in-Some.slot.now c.self.invariant.runs_filed (sym c.in-Some.ensures.value))

pub change-requires-2-clause-there : goal.change-requires-2-clause-there
change-requires-2-clause-there g c =
    let rectangles = c.self.inside.rectangles.entries in
    λ kept. subst (λ (r : Corners). Contains rectangles (entry_of c.args.key r)) (sym c.prec.ensures.prec)
    (is_listed c.self.inside.edges.slots (λ edge. edge.prec) rectangles c.args.key c.in-Some.slot.now
    (c.self.invariant.rectangles_filed kept) (sym c.in-Some.ensures.value))

pub invariant_of-self-2 : goal.invariant_of-self-2
invariant_of-self-2 g c =
    let old = c.self.inside.edges.slots in
    let runs = g.I.RangeIndex.entries c.self.inside.runs in
    let rectangles = c.self.inside.rectangles in
    let view : old ≡ c.args.self.now.slots = ap (λ (v : StoreValue). v.slots) c.self.view_is in
    stored_changed old (slice_set old c.args.key (Some c.args.edge)) runs (g.I.RangeIndex.entries c.change.new.self)
    rectangles c.change-2.new.self c.args.key c.args.edge
    (puts_by_write old c.args.key c.in-Some.slot.now c.args.edge (sym c.in-Some.ensures.value))
    c.dep-2.ensures.edge
    (subst (λ (slots : List (Option EdgeValue)). IsApartBeside slots c.args.key c.args.edge) (sym view) c.requires.apart)
    (subst (λ (r : Corners). ChangesRange runs (g.I.RangeIndex.entries c.change.new.self) c.args.key r) c.dep-2.ensures.dep c.change.ensures.changed)
    c.change-2.ensures.kept
    (λ kept. subst (λ (r : Corners). ChangesRange rectangles.entries c.change-2.new.self.entries c.args.key r)
    c.prec-2.ensures.prec (c.change-2.ensures.changed kept))
    c.self.invariant
