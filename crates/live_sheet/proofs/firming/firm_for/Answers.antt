use Rattle.std.proofs.Common.{ap, length, sym, subst, ◌∙◌}
use Rattle.sheet_refs.specs.Sizes.{cell_count}
use Rattle.mark_words.specs.Tokens.{subject_of}
use Rattle.sheet_model.specs.Logs.{after}
use Rattle.sheet_model.specs.Sheets.{IsSheet, SheetValue}
use Rattle.live_sheet.proofs.FirmLemmas.{is_firm}
use Rattle.live_sheet.proofs.firming.firm_for.Goals as goal

pub show_window-requires-clause-places : goal.show_window-requires-clause-places
show_window-requires-clause-places g c κs =
    c.requires.table.same_places ∙ ap (λ (s : SheetValue). cell_count s.sizes) c.requires.subject ∙ ap cell_count (sym c.opening_sizes-sizes.ensures.sizes)

pub show_window-requires-clause-opening : goal.show_window-requires-clause-opening
show_window-requires-clause-opening g c κs = ap (λ (s : SheetValue). s.sizes) c.requires.subject ∙ sym c.opening_sizes-sizes.ensures.sizes

pub show_window-requires-clause-sheet : goal.show_window-requires-clause-sheet
show_window-requires-clause-sheet g c κs =
    subst IsSheet
    (c.opening_sizes-sizes.ensures.kept.replayed ∙ ap (λ (o : SheetValue). after o c.args.book.now.log) (sym c.requires.subject)
    ∙ ap (after (subject_of c.args.marks.now)) (sym (c.settle_range.ensures.editor.log ∙ c.hear.ensures.editor.log ∙ c.requires.log)))
    c.opening_sizes-sizes.ensures.sheet

pub show_window-requires-clause-inside : goal.show_window-requires-clause-inside
show_window-requires-clause-inside g c κs = rw c.opening_sizes-sizes.ensures.sizes c.requires.inside

pub show_window-requires-clause-known : goal.show_window-requires-clause-known
show_window-requires-clause-known g c κs = rw (c.requires.subject, c.opening_sizes-sizes.ensures.sizes) c.in_ok-settle_range.ensures.clean

pub returns-clause-firm : goal.returns-clause-firm
returns-clause-firm g c =
    is_firm c.args.book.now.opening (subject_of c.args.marks.now) _ c.args.window _ c.show_window.new.board
    c.args.seat.now c.hear.new.editor c.settle_range.new.editor c.show_window.new.editor c.learn.new.seat
    c.requires.subject (c.length-length.ensures.length ∙ ap length (sym (c.hear.ensures.editor.log ∙ c.requires.log)))
    c.hear.ensures.seen (c.hear.new.editor.knows_all.seen (c.hear.ensures.editor.editor ∙ c.requires.free.editor))
    c.settle_range.ensures.editor c.show_window.ensures.editor c.learn.ensures.knows c.in_ok-settle_range.ensures.clean c.show_window.ensures.shows
