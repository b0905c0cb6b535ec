use Rattle.std.proofs.Common.{◌≡◌, ◌<◌, length, map, ap, subst}
use Rattle.sheet_model.specs.Sheets.{IsHeld, content_value}
use Rattle.sheet_model.proofs.SheetLemmas.{held_at}
use Rattle.sheet_model.proofs.sheet.Sheet.content.Goals as goal

pub returns-then-holds-clause-held : goal.returns-then-holds-clause-held
returns-then-holds-clause-held c =
    let sizes : c.self.inside.sizes ≡ c.args.self.now.sizes = ap (λ s. s.sizes) c.self.view_is in
    let labels : c.self.inside.labels ≡ c.args.self.now.labels = ap (λ s. s.labels) c.self.view_is in
    let within : c.place.result < length (map content_value c.self.inside.contents.items) = rw (c.self.invariant.sheet.filled, sizes) c.place.ensures.within in
    subst (λ ls. IsHeld (length ls) (content_value c.index.result.now)) labels
    (held_at (length c.self.inside.labels) c.self.inside.contents.items c.place.result c.index.result.now c.self.invariant.sheet.held within c.index.ensures)
