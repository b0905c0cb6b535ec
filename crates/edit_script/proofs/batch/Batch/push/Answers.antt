use Rattle.std.proofs.Common.{◌≡◌, ◌<◌, true, ◌++◌, ◌∷◌, [], length, Contains, sym, ap, subst, ◌∙◌}
use Rattle.std.specs.Ordering.{nat_cmp}
use Rattle.std.specs.BTreeSet.{Updates}
use Rattle.sheet_model.specs.Changes.{ChangeValue}
use Rattle.sheet_model.specs.Edits.{EditValue, HasName, named_place}
use Rattle.edit_script.specs.Batches.{changed_cells}
use Rattle.edit_script.proofs.BatchLemmas.{stored_more}
use Rattle.edit_script.proofs.batch.Batch.push.Goals as goal

pub invariant_of-self-in-Ok : goal.invariant_of-self-in-Ok
invariant_of-self-in-Ok c =
    let cell : c.change.inside.cell ≡ c.args.change.cell = ap (λ (x : ChangeValue). x.cell) c.change.view_is in
    let was : c.self.inside.changes.items ≡ c.args.self.now = c.self.view_is in
    let named : HasName c.args.change.cell = subst HasName cell c.place_of_name-place.ensures.named in
    let place : c.place_of_name-place.result ≡ named_place c.args.change.cell = c.place_of_name-place.ensures.place ∙ ap named_place cell in
    let updates : Updates nat_cmp c.self.inside.places c.insert.new.self (named_place c.args.change.cell) true =
    subst (λ p. Updates nat_cmp c.self.inside.places c.insert.new.self p true) place c.in-Ok.ensures.updates in
    stored_more c.self.inside.changes.items c.self.inside.places c.insert.new.self c.args.change c.self.invariant named updates c.push_reserved.new.self.items
    (c.push_reserved.ensures.items ∙ ap (λ items. items ++ c.args.change ∷ []) c.in_ok-reserve.ensures.items)
    (subst (λ (e : EditValue). length e < 1024) (sym was) c.requires.few)
    (subst (λ (e : EditValue). ¬ Contains (changed_cells e) c.args.change.cell) (sym was) c.requires.apart)
