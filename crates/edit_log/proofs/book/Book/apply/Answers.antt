use Rattle.std.proofs.Common.{◌≡◌, ◌∙◌, length, refl, sym, ap, subst}
use Rattle.sheet_model.specs.Edits.{EditValue, AreHeldBeside, AreInSheet, IsEdit, IsFor, after_edit}
use Rattle.sheet_model.specs.declared.entry.Entry.{Entry}
use Rattle.edit_log.specs.Books.{BookValue, IsPreparedFor, PreparedValue}
use Rattle.edit_log.specs.Pairs.{ArePairsOf}
use Rattle.edit_log.specs.Touches.{AreTouched}
use Rattle.edit_log.proofs.CycleLemmas.{applied_cycles}
use Rattle.edit_log.proofs.TouchLemmas.{ready_for, applied_book, book_sheet}
use Rattle.edit_log.proofs.ValueLemmas.{kept_through, same_beside, touched_inside}
use Rattle.edit_log.proofs.book.Book.apply.Goals as goal

pub apply-requires : goal.apply-requires
apply-requires g c =
    let ready : IsPreparedFor c.self.inside.opening.value c.self.inside.log.items c.args.prepared =
    subst (λ (b : BookValue _). IsPreparedFor b.opening b.log c.args.prepared) (sym c.self.view_is)
    c.requires.prepared in
    let entry_is : c.prepared.inside.entry ≡ c.args.prepared.entry = ap (λ (p : PreparedValue). p.entry) c.prepared.view_is in
    ready_for c.self.inside.opening.value c.self.inside.sheet c.self.inside.log.items
    (g.G.Graph.pairs c.self.inside.graph) c.args.prepared c.prepared.inside.edit c.self.invariant.book ready
    (c.prepared.invariant.same ∙ ap (λ (e : Entry). e.edit) entry_is)

pub invariant_of-self : goal.invariant_of-self
invariant_of-self g c =
    let ready : IsPreparedFor c.self.inside.opening.value c.self.inside.log.items c.args.prepared =
    subst (λ (b : BookValue _). IsPreparedFor b.opening b.log c.args.prepared) (sym c.self.view_is)
    c.requires.prepared in
    let entry_is : c.prepared.inside.entry ≡ c.args.prepared.entry = ap (λ (p : PreparedValue). p.entry) c.prepared.view_is in
    let for : IsFor c.self.inside.sheet c.prepared.inside.edit =
    ready_for c.self.inside.opening.value c.self.inside.sheet c.self.inside.log.items
    (g.G.Graph.pairs c.self.inside.graph) c.args.prepared c.prepared.inside.edit c.self.invariant.book ready
    (c.prepared.invariant.same ∙ ap (λ (e : Entry). e.edit) entry_is) in
    let inside : AreInSheet c.self.inside.sheet c.prepared.inside.edit = λ k d within. (for k d within).inside in
    let is_edit : IsEdit c.prepared.inside.entry.edit = subst (λ (e : Entry). IsEdit e.edit) (sym entry_is) ready.edit in
    let held : AreHeldBeside (length c.self.inside.opening.value.labels) c.prepared.inside.entry.edit =
    subst (λ (e : Entry). AreHeldBeside (length c.self.inside.opening.value.labels) e.edit) (sym entry_is) ready.held in
    let made : ArePairsOf (after_edit c.self.inside.sheet c.prepared.inside.edit) (g.G.Graph.pairs c.replace_all.new.graph) =
    subst (λ (e : EditValue). ArePairsOf (after_edit c.self.inside.sheet e) (g.G.Graph.pairs c.replace_all.new.graph)) c.changes.ensures.changes
    (c.replace_all.ensures c.self.inside.sheet (book_sheet c.self.inside.opening.value c.self.inside.sheet
    c.self.inside.log.items (g.G.Graph.pairs c.self.inside.graph) c.self.invariant.book).filled
    (subst (AreInSheet c.self.inside.sheet) (sym c.changes.ensures.changes) inside) c.self.invariant.book.pairs_are) in
    let prepared : PreparedValue = record { entry = c.prepared.inside.entry; number = c.prepared.inside.number; touched = c.prepared.inside.touched.items } in
    let ready_inside : IsPreparedFor c.self.inside.opening.value c.self.inside.log.items prepared =
    subst (IsPreparedFor c.self.inside.opening.value c.self.inside.log.items) (sym c.prepared.view_is) ready in
    let kept_book =
    applied_book c.self.inside.opening.value c.self.inside.sheet c.apply.new.self c.self.inside.log.items
    c.push_reserved.new.self.items (g.G.Graph.pairs c.self.inside.graph) (g.G.Graph.pairs c.replace_all.new.graph)
    c.prepared.inside.entry c.prepared.inside.edit
    c.self.invariant.book c.prepared.invariant.same is_edit held ready.room c.apply.ensures.placed c.push_reserved.ensures.items made in
    let touched_is = ap (λ (p : PreparedValue). p.touched) c.prepared.view_is in
    record {
      book = kept_book;
      cycles_held =
          applied_cycles c.self.inside.opening.value c.self.inside.sheet c.self.inside.log.items
          (g.G.Graph.pairs c.self.inside.graph) (g.G.Graph.pairs c.replace_all.new.graph) prepared c.self.inside.cycles
          c.kept_where.result c.prepared.inside.keeps_cycles c.self.invariant.book ready_inside c.prepared.invariant.closes
          (subst (λ (e : EditValue). ArePairsOf (after_edit c.self.inside.sheet e) (g.G.Graph.pairs c.replace_all.new.graph)) c.prepared.invariant.same made)
          c.self.invariant.cycles_held (rw c.take.ensures.value at c.kept_where.ensures);
      values_kept =
          kept_through c.self.inside.sheet c.apply.new.self c.deref.result.now c.forget.new.values c.forget.ensures
          (same_beside c.self.inside.opening.value c.self.inside.sheet c.apply.new.self c.self.inside.log.items c.args.prepared.entry c.deref.result.now
          c.self.invariant.book.replayed
          (subst (AreTouched c.self.inside.opening.value c.self.inside.log.items c.args.prepared.entry) (sym (c.deref.ensures.value ∙ touched_is))
          ready.touched)
          (book_sheet _ _ _ _ kept_book)
          (c.apply.ensures.placed ∙ ap (after_edit c.self.inside.sheet) (c.prepared.invariant.same ∙ ap (λ (e : Entry). e.edit) entry_is)));
    }

pub forget-requires-clause-inside : goal.forget-requires-clause-inside
forget-requires-clause-inside g c =
    let ready : IsPreparedFor c.self.inside.opening.value c.self.inside.log.items c.args.prepared =
    subst (λ (b : BookValue _). IsPreparedFor b.opening b.log c.args.prepared) (sym c.self.view_is)
    c.requires.prepared in
    touched_inside c.self.inside.opening.value c.self.inside.sheet c.self.inside.sheet c.self.inside.log.items c.args.prepared.touched
    c.deref.result.now refl c.self.invariant.book.replayed (c.deref.ensures.value ∙ ap (λ (p : PreparedValue). p.touched) c.prepared.view_is)
    ready.touched_inside

pub returns-clause-kept : goal.returns-clause-kept
returns-clause-kept g c = (invariant_of-self g c).book
