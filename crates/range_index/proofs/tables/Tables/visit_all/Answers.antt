use Rattle.std.proofs.Common.{◌≡◌, ◌++◌, ◌∷◌, [], List, true, false, sym, ◌∙◌, ap, subst, length}
use Rattle.std.specs.Map.Iter.{deref}
use Rattle.std.proofs.lemmas.List.{length_push}
use Rattle.std.proofs.lemmas.Map.Iter.{iter_turn}
use Rattle.sheet_refs.specs.Cells.{Corners}
use Rattle.sheet_refs.specs.Rectangles.{Overlap}
use Rattle.range_index.specs.Entries.{Entry}
use Rattle.range_index.specs.Grids.{entries_in}
use Rattle.range_index.proofs.EntryLemmas.{passes_by, adds_next}
use Rattle.range_index.proofs.TableLemmas.{one_range}
use Rattle.range_index.proofs.tables.Tables.visit_all.Goals as goal

pub loop-item-preserved : goal.loop-item-preserved
loop-item-preserved c =
    let entries : List Entry = entries_in c.args.self.now in
    let entry : Entry = c.in-Some.item.now in
    let turn = iter_turn deref entries c.loop-item.yielded _ _ _ _ (c.into_iter-item-iterator.ensures.into_iter_gives
    ∙ c.values-item-items.ensures.rest) c.loop-item.yielded_by c.in-Some.item c.in-Some.is c.next.ensures.steps in
    let range : c.item.inside.range ≡ entry.range = ap (λ (e : Entry). e.range) c.item.view_is in
    let test : c.overlaps.result ≡ false = c.if-overlaps.false in
    let apart : Overlap entry.range c.args.q
    → ⊥ =
    λ overlap. absurd (let yes : c.overlaps.result ≡ true = c.overlaps.ensures.1
    (subst (λ (r : Corners). Overlap r c.args.q) (sym range) overlap) in cc) in
    passes_by entries (length c.loop-item.yielded) (length (c.loop-item.yielded ++ c.in-Some.item ∷ [])) entry c.args.q
    c.args.out.now.items c.loop-item.out.items
    (length_push c.loop-item.yielded c.in-Some.item) turn.1 apart c.loop-item.invariant

pub loop-item-preserved-in-Continue-1 : goal.loop-item-preserved-in-Continue-1
loop-item-preserved-in-Continue-1 c =
    let entries : List Entry = entries_in c.args.self.now in
    let entry : Entry = c.in-Some.item.now in
    let turn = iter_turn deref entries c.loop-item.yielded _ _ _ _ (c.into_iter-item-iterator.ensures.into_iter_gives
    ∙ c.values-item-items.ensures.rest) c.loop-item.yielded_by c.in-Some.item c.in-Some.is c.next.ensures.steps in
    let range : c.item.inside.range ≡ entry.range = ap (λ (e : Entry). e.range) c.item.view_is in
    let id : c.item.inside.id ≡ entry.id = ap (λ (e : Entry). e.id) c.item.view_is in
    let test : c.overlaps.result ≡ true = c.if-overlaps.true in
    let overlap : Overlap entry.range c.args.q = subst (λ (r : Corners). Overlap r c.args.q) range (c.overlaps.ensures.0 test) in
    let pushed : c.push.new.self.items ≡ c.loop-item.out.items ++ entry.id ∷ [] = rw (← id) c.in_ok-push.ensures.items in
    adds_next entries (length c.loop-item.yielded) (length (c.loop-item.yielded ++ c.in-Some.item ∷ [])) entry c.args.q
    c.args.out.now.items c.loop-item.out.items c.push.new.self.items
    (one_range c.requires) (length_push c.loop-item.yielded c.in-Some.item) turn.1 overlap pushed c.loop-item.invariant
