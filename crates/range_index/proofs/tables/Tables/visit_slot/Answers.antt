use Rattle.std.proofs.Common.{◌≡◌, true, false, Some, None, ap, sym, ◌∙◌, subst}
use Rattle.sheet_refs.specs.Cells.{Corners}
use Rattle.sheet_refs.specs.Rectangles.{Overlap}
use Rattle.range_index.specs.Entries.{Entry}
use Rattle.range_index.specs.Grids.{entry_at}
use Rattle.range_index.proofs.GridLemmas.{found_nowhere}
use Rattle.range_index.proofs.tables.Tables.visit_slot.Goals as goal

pub returns-in_default-clause-found : goal.returns-in_default-clause-found
returns-in_default-clause-found c =
    let none : entry_at c.args.self.now c.args.slot ≡ None = sym c.item.ensures ∙ c.in_default.is in
    found_nowhere (entry_at c.args.self.now) (λ s. s ≡ c.args.slot) c.args.q c.args.out.now.items
    (λ slot entry same here overlap. absurd (let there : Some entry ≡ None = sym here ∙ ap (entry_at c.args.self.now) same ∙ none in cc))

pub returns-else-overlaps-clause-found : goal.returns-else-overlaps-clause-found
returns-else-overlaps-clause-found c =
    let here : entry_at c.args.self.now c.args.slot ≡ Some c.in-Some.item = sym c.item.ensures ∙ c.in-Some.is in
    let range : c.item-2.inside.range ≡ c.in-Some.item.range = ap (λ (e : Entry). e.range) c.item-2.view_is in
    let test : c.overlaps.result ≡ false = c.if-overlaps.false in
    found_nowhere (entry_at c.args.self.now) (λ s. s ≡ c.args.slot) c.args.q c.args.out.now.items
    (λ slot entry same at_slot overlap.
    let entries : entry ≡ c.in-Some.item = (let both : Some entry ≡ Some c.in-Some.item = sym at_slot ∙ ap (entry_at c.args.self.now) same ∙ here in cc) in
    let own : Overlap c.item-2.inside.range c.args.q = subst (λ (r : Corners). Overlap r c.args.q) (ap (λ (e : Entry). e.range) entries ∙ sym range) overlap in
    absurd (let yes : c.overlaps.result ≡ true = c.overlaps.ensures.1 own in cc))
