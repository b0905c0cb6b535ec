use Rattle.std.proofs.Common.{◌<◌, List, length, sym, subst, refl, ap, ◌∙◌, arith}
use Rattle.sheet_refs.specs.Cells.{cells_of}
use Rattle.sheet_refs.proofs.Places.{comes_to_head, comes_to_next, HasComeTo}
use Rattle.mark_words.specs.Tokens.{subject_of}
use Rattle.sheet_model.specs.Logs.{after}
use Rattle.live_sheet.specs.Firm.{value_shown}
use Rattle.live_sheet.proofs.FirmLemmas.{window_begins, window_ends, window_goes_on}
use Rattle.live_sheet.proofs.StaleLemmas.{cell_still}
use Rattle.live_sheet.proofs.firm_cells.show_window.Goals as goal

pub loop-place-init : goal.loop-place-init
loop-place-init g c =
    window_begins _ _ _ c.args.window _ c.args.editor.now c.requires.table c.args.board.now c.begin.new.self c.begin.ensures refl c.head-cell.result
    (subst (λ cell. HasComeTo c.args.window 0 cell) (sym c.head-cell.ensures.head) (comes_to_head c.args.window c.head-cell.ensures.ordered))

pub show_cell-requires-clause-known : goal.show_cell-requires-clause-known
show_cell-requires-clause-known g c κs within =
    cell_still (g.S.Subject.touches (subject_of c.args.marks.now)) c.args.sizes c.args.editor.now c.loop-place.editor
    c.loop-place.invariant.kept c.loop-place.cell
    (c.requires.known c.loop-place.cell c.loop-place.invariant.at.inside)

pub loop-place-preserved : goal.loop-place-preserved
loop-place-preserved g c =
    let below : c.loop-place._place < length (cells_of c.args.window) = omega (arith, c.loop-place-test.true, c.cells-place-end.ensures.count) in
    window_goes_on _ _ _ _ _ _ c.loop-place.editor c.show_cell.new.editor c.loop-place.board c.push.new.self
    c.show_cell.result c.loop-place._place c.loop-place.cell c.cell_behind-cell.result
    c.loop-place.invariant (c.loop-place.invariant.at.listed below) c.show_cell.ensures.table c.show_cell.ensures.editor
    (c.show_cell.ensures.value
    ∙ ap (λ (l : List _). value_shown (after (g.S.SheetSubject.opening (subject_of c.args.marks.now)) l)
    c.loop-place.cell) c.loop-place.invariant.kept.log)
    c.push.ensures
    (comes_to_next c.args.window c.loop-place._place c.loop-place.cell c.cell_behind-cell.result
    c.loop-place.invariant.at below c.cell_behind-cell.ensures.next c.cell_behind-cell.ensures.inside)

pub returns-clause-shows : goal.returns-clause-shows
returns-clause-shows g c =
    window_ends _ _ _ _ _ _ c.loop-place.editor c.loop-place.board _ c.loop-place._place c.loop-place.cell
    c.loop-place.invariant c.cells-place-end.ensures.count c.loop-place-test.false
