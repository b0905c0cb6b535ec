use Rattle.std.proofs.Common.{◌≡◌, IsTrue, ap, length, subst, sym, ◌∙◌}
use Rattle.sheet_refs.specs.Cells.{Position}
use Rattle.sheet_refs.specs.Sizes.{is_inside}
use Rattle.sheet_model.specs.Changes.{ChangeValue}
use Rattle.sheet_model.specs.Sheets.{HasLabel, content_value}
use Rattle.live_trial.proofs.undoing.is_for.Goals as goal

pub returns : goal.returns
returns c =
    let cell : c.change.inside.cell ≡ c.args.change.now.cell = ap (λ (x : ChangeValue). x.cell) c.change.view_is in
    let content : content_value c.change.inside.content ≡ c.args.change.now.content = ap (λ (x : ChangeValue). x.content) c.change.view_is in
    record {
      inside = subst (λ (p : Position). IsTrue (is_inside c.args.sheet.now.sizes p)) cell (sym c.holds.ensures ∙ c.if-not-holds.false);
      label = subst (HasLabel (length c.args.sheet.now.labels)) content (c.if-not-is_plain.ensures (length c.args.sheet.now.labels));
    }
