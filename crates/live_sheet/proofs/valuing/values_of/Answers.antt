use Rattle.std.proofs.Common.{sym, ap, subst, All, ◌∙◌}
use Rattle.sheet_model.specs.KeptValues.{KeepsValuesOf}
use Rattle.sheet_model.specs.Sheets.{SheetValue}
use Rattle.edit_log.specs.Books.{BookValue}
use Rattle.live_sheet.specs.Slices.{IsValued}
use Rattle.live_sheet.proofs.valuing.values_of.Goals as goal

pub list_found-requires-clause-kept : goal.list_found-requires-clause-kept
list_found-requires-clause-kept g c =
    subst (λ (s : SheetValue). KeepsValuesOf s c.in_ok-values.values)
    (sym (c.sheet-sheet.ensures.sheet ∙ ap (λ (b : BookValue _). b.sheet) c.take_values.ensures.same)) c.in_ok-values.ensures.values

pub list_found-requires-clause-inside : goal.list_found-requires-clause-inside
list_found-requires-clause-inside g c =
    let sizes_now = ap (λ (s : SheetValue). s.sizes) (c.sheet-sheet.ensures.sheet ∙ ap (λ (b : BookValue _). b.sheet) c.take_values.ensures.same)
    ∙ c.opening_sizes.ensures.same in
    rw (sizes_now) c.requires.inside

pub keep_values-requires : goal.keep_values-requires
keep_values-requires g c = subst (λ (s : SheetValue). KeepsValuesOf s c.in_ok-values-2.values) c.sheet-sheet.ensures.sheet c.in_ok-values-2.ensures.kept

pub returns-clause-book : goal.returns-clause-book
returns-clause-book g c = c.keep_values.ensures ∙ c.take_values.ensures.same

pub returns-clause-valued : goal.returns-clause-valued
returns-clause-valued g c =
    subst (λ (s : SheetValue). All (IsValued s) c.in_ok-values-2.valued.items)
    (c.sheet-sheet.ensures.sheet ∙ ap (λ (b : BookValue _). b.sheet) c.take_values.ensures.same) c.in_ok-values-2.ensures.valued
