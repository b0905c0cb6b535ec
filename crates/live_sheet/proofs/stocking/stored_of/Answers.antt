use Rattle.std.proofs.Common.{ap, subst, ◌∙◌}
use Rattle.sheet_model.specs.Sheets.{IsSheet, SheetValue, content_of}
use Rattle.live_sheet.proofs.StoreLemmas.{is_stored}
use Rattle.live_sheet.proofs.stocking.stored_of.Goals as goal

pub returns : goal.returns
returns c =
    let book = c.length-count.ensures.kept in
    is_stored c.args.book.now.opening c.args.book.now.log c.args.book.now.sheet _ _ c.length-count.ensures.length book.replayed
    (subst IsSheet c.sheet-sheet.ensures.sheet c.sizes.ensures.sheet)
    (c.in_ok-content.ensures ∙ c.content.ensures.content ∙ ap (λ (s : SheetValue). content_of s c.args.cell) c.sheet-sheet.ensures.sheet)
    c.pair_laws.ensures.cycles book.pairs_are c.may_be_on_cycle.ensures
