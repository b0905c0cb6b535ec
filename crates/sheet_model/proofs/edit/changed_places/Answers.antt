use Rattle.std.proofs.Common.{◌≡◌, ap, subst, ◌∙◌}
use Rattle.sheet_model.specs.Changes.{ChangeValue}
use Rattle.sheet_model.specs.Edits.{HasName, named_place}
use Rattle.sheet_model.specs.Sheets.{IsWritten, content_value}
use Rattle.sheet_model.proofs.ListLemmas.{mapped_more, all_taken_more}
use Rattle.sheet_model.proofs.edit.changed_places.Goals as goal

pub loop-change-preserved : goal.loop-change-preserved
loop-change-preserved c =
    let cell : c.change.inside.cell ≡ c.change-item.result.cell = ap (λ (x : ChangeValue). x.cell) c.change.view_is in
    let content : content_value c.change.inside.content ≡ c.change-item.result.content = ap (λ (x : ChangeValue). x.content) c.change.view_is in (
      c.push.ensures.items
          ∙ mapped_more (λ (x : ChangeValue). named_place x.cell) c.args.changes.now c.loop-change.places.items
          c.loop-change.change-index c.change-item.result c.place_of_name.result c.loop-change.invariant.0
          c.loop-change-test.true c.change-item.is
          (c.place_of_name.ensures.place ∙ ap named_place cell),
      all_taken_more (λ (x : ChangeValue). HasName x.cell) c.args.changes.now c.loop-change.change-index
          c.change-item.result c.loop-change-test.true c.change-item.is c.loop-change.invariant.1
          (subst HasName cell c.place_of_name.ensures.named),
      all_taken_more (λ (x : ChangeValue). IsWritten x.content) c.args.changes.now c.loop-change.change-index
          c.change-item.result c.loop-change-test.true c.change-item.is c.loop-change.invariant.2
          (subst IsWritten content c.change.invariant),
    )
