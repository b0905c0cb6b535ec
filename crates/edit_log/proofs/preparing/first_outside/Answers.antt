use Rattle.std.proofs.Common.{◌≡◌, IsTrue, ap, subst, sym, ◌∙◌}
use Rattle.std.proofs.lemmas.List.{take_all}
use Rattle.sheet_refs.specs.Cells.{Position}
use Rattle.sheet_refs.specs.Sizes.{is_inside}
use Rattle.sheet_model.specs.Changes.{ChangeValue}
use Rattle.sheet_model.specs.Edits.{AreInSheet}
use Rattle.sheet_model.proofs.ListLemmas.{all_taken_more}
use Rattle.edit_log.proofs.preparing.first_outside.Goals as goal

pub loop-change-preserved : goal.loop-change-preserved
loop-change-preserved c =
    let cell : c.change.inside.cell ≡ c.change-item.result.cell = ap (λ (x : ChangeValue). x.cell) c.change.view_is in
    let inside : IsTrue (is_inside c.args.sheet.now.sizes c.change.inside.cell) = sym c.holds.ensures ∙ c.if-not-holds.false in
    all_taken_more (λ (x : ChangeValue). IsTrue (is_inside c.args.sheet.now.sizes x.cell)) c.args.changes.now
    c.loop-change.change-index c.change-item.result c.loop-change-test.true c.change-item.is c.loop-change.invariant
    (subst (λ (p : Position). IsTrue (is_inside c.args.sheet.now.sizes p)) cell inside)

pub returns : goal.returns
returns c = subst (AreInSheet c.args.sheet.now) (take_all c.loop-change.change-index c.args.changes.now c.loop-change-test.false) c.loop-change.invariant
