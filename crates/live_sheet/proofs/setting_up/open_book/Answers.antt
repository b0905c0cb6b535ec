use Rattle.std.proofs.Common.{◌∙◌, subst, sym}
use Rattle.sheet_model.specs.KeptValues.{KeepsValuesOf}
use Rattle.edit_log.specs.Books.{BookValue, IsBook, IsOpenedWith}
use Rattle.live_sheet.specs.Graphs.{live_pairs}
use Rattle.live_sheet.proofs.setting_up.open_book.Goals as goal

pub keep_values-requires : goal.keep_values-requires
keep_values-requires c =
    subst (λ (b : BookValue _). KeepsValuesOf b.sheet c.in_ok-values.values) (sym c.take_values.ensures.same) c.in_ok-values.ensures.values

pub returns-clause-opened : goal.returns-clause-opened
returns-clause-opened c =
    subst (IsOpenedWith c.args.sheet) (sym (c.keep_values.ensures ∙ c.take_values.ensures.same)) c.in_ok-book.ensures.opened

pub returns-clause-kept : goal.returns-clause-kept
returns-clause-kept c = subst (IsBook live_pairs) (sym (c.keep_values.ensures ∙ c.take_values.ensures.same)) c.in_ok-book.ensures.kept
