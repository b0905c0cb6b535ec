-- The desk has the log of the book, whose sheet is the opening one after it.
use Rattle.std.proofs.Common.{All, sym, ap, subst, ◌∙◌}
use Rattle.sheet_model.specs.Logs.{after}
use Rattle.sheet_model.specs.Sheets.{SheetValue}
use Rattle.edit_log.specs.Books.{BookValue}
use Rattle.live_sheet.specs.Slices.{IsValued}
use Rattle.live_sheet.proofs.locked.Locked.slice.Goals as goal

pub returns-clause-valued : goal.returns-clause-valued
returns-clause-valued g c =
    let told = c.tell_worker-count.new.self in
    subst (λ (s : SheetValue). All (IsValued s) c.in_ok-valued.valued.items)
    (ap (λ (b : BookValue _). b.sheet) (sym c.values_of.ensures.book) ∙ c.values_of.ensures.kept.replayed
    ∙ ap (λ (b : BookValue _). after b.opening b.log) c.values_of.ensures.book
    ∙ ap (λ (o : SheetValue). after o told.book.log) told.opening ∙ ap (after g.N.Naming.opening) (sym c.tell_worker-count.ensures.log))
    c.in_ok-valued.ensures.valued
