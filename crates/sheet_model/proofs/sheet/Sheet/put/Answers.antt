use Rattle.std.proofs.Common.{◌≡◌, ◌<◌, ◌∙◌, map, length, get_or, sym, ap, subst}
use Rattle.std.proofs.lemmas.List.{map-set}
use Rattle.sheet_model.specs.Sheets.{HasLabel, IsHeld, content_value, sheet_value}
use Rattle.sheet_model.proofs.SheetLemmas.{held_at, sheet_with_content}
use Rattle.sheet_model.proofs.sheet.Sheet.put.Goals as goal

pub invariant_of-self : goal.invariant_of-self
invariant_of-self c =
    let content : content_value c.change.inside.content ≡ c.args.change.content = ap (λ x. x.content) c.change.view_is in
    let labels : c.args.self.now.labels ≡ c.self.inside.labels = ap (λ s. s.labels) (sym c.self.view_is) in
    let has : HasLabel (length c.args.self.now.labels) (content_value c.change.inside.content) =
    subst (HasLabel (length c.args.self.now.labels)) (sym content) c.requires.label in
    let held : IsHeld (length c.self.inside.labels) (content_value c.change.inside.content) =
    record { label = subst (λ ls. HasLabel (length ls) (content_value c.change.inside.content)) labels has; written = c.change.invariant } in
    let changed = sheet_with_content (sheet_value c.self.inside.edition c.self.inside.sizes c.self.inside.contents.items
    c.self.inside.labels) c.change.inside.cell (content_value c.change.inside.content) c.self.invariant.sheet held
    in
    record {
      sheet = rw (c.replace.ensures.after, c.place-place.ensures.place, map-set) changed;
      nothing = c.self.invariant.nothing;
    }

pub returns-clause-placed : goal.returns-clause-placed
returns-clause-placed c =
    rw (c.requires.inside, c.place-place.ensures.place, c.replace.ensures.after, ← c.self.view_is, ← c.change.view_is) (simp map-set)

pub returns-clause-sheet : goal.returns-clause-sheet
returns-clause-sheet c = (invariant_of-self c).sheet

pub returns-clause-held : goal.returns-clause-held
returns-clause-held c =
    let labels : c.self.inside.labels ≡ c.args.self.now.labels = ap (λ s. s.labels) c.self.view_is in
    let within : c.place-place.result < length (map content_value c.self.inside.contents.items) =
    rw c.self.invariant.sheet.filled c.place-place.ensures.within in
    let at : c.replace.result ≡ c.index_mut.result.now = c.replace.ensures.value in
    subst (λ ls. IsHeld (length ls) (content_value c.replace.result)) labels
    (held_at (length c.self.inside.labels) c.self.inside.contents.items c.place-place.result c.replace.result c.self.invariant.sheet.held within
    (at ∙ c.index_mut.ensures.value ∙ ap (get_or c.self.inside.contents.items c.place-place.result) (sym at)))
