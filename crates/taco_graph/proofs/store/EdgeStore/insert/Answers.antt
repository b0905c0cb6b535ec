use Rattle.std.proofs.Common.{◌≡◌, List, Option, sym, ap, subst}
use Rattle.sheet_refs.specs.Cells.{Corners}
use Rattle.edge_patterns.specs.Edges.{EdgeValue}
use Rattle.range_index.specs.Entries.{Inserts}
use Rattle.taco_graph.specs.Stores.{StoreValue, IsApart}
use Rattle.taco_graph.proofs.StoreLemmas.{has_no_id, stored_more}
use Rattle.taco_graph.proofs.store.EdgeStore.insert.Goals as goal

pub insert-requires-clause-absent : goal.insert-requires-clause-absent
insert-requires-clause-absent g c =
    has_no_id c.self.inside.edges.slots (λ edge. edge.dep) (g.I.RangeIndex.entries c.self.inside.runs)
    c.insert_reserved-key.result c.self.invariant.runs_filed c.insert_reserved-key.ensures.was_vacant

pub insert-requires-2-clause-absent : goal.insert-requires-2-clause-absent
insert-requires-2-clause-absent g c =
    λ kept. has_no_id c.self.inside.edges.slots (λ edge. edge.prec) c.self.inside.rectangles.entries
    c.insert_reserved-key.result (c.self.invariant.rectangles_filed kept) c.insert_reserved-key.ensures.was_vacant

pub invariant_of-self : goal.invariant_of-self
invariant_of-self g c =
    let old = c.self.inside.edges.slots in
    let new = c.insert_reserved-key.new.self.slots in
    let key = c.insert_reserved-key.result in
    let one = c.args.edge in
    let runs = g.I.RangeIndex.entries c.self.inside.runs in
    let more_runs = g.I.RangeIndex.entries c.insert.new.self in
    let rectangles = c.self.inside.rectangles in
    let more_rectangles = c.insert-2.new.self in
    let view : old ≡ c.args.self.now.slots = ap (λ (v : StoreValue). v.slots) c.self.view_is in
    let updates = c.insert_reserved-key.ensures.updates in
    stored_more old new runs more_runs rectangles more_rectangles key one
    c.insert_reserved-key.ensures.was_vacant
    (record { changed = updates.changed; others = updates.others })
    c.dep.ensures.edge
    (subst (λ (slots : List (Option EdgeValue)). IsApart slots one) (sym view) c.requires.apart)
    (subst (λ (r : Corners). Inserts runs more_runs key r) c.dep.ensures.dep c.insert.ensures.inserted)
    c.insert-2.ensures.kept
    (λ kept. subst (λ (r : Corners). Inserts rectangles.entries more_rectangles.entries key r) c.prec.ensures.prec
    (c.insert-2.ensures.inserted kept))
    c.self.invariant
