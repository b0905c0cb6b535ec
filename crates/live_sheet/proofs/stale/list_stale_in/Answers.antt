use Rattle.std.proofs.Common.{◌<◌, length, sym, subst, arith}
use Rattle.mark_words.specs.Tokens.{subject_of}
use Rattle.sheet_refs.specs.Cells.{cells_of}
use Rattle.sheet_refs.proofs.Places.{comes_to_head, comes_to_next, HasComeTo}
use Rattle.recalc_workers.proofs.SharingLemmas.{keeps_editor_on}
use Rattle.live_sheet.proofs.StaleLemmas.{adds_all, range_begins, range_goes_on}
use Rattle.live_sheet.proofs.stale.list_stale_in.Goals as goal

pub loop-place-init : goal.loop-place-init
loop-place-init g c =
    range_begins c.args.marks.now (g.S.Subject.touches (subject_of c.args.marks.now)) c.args.sizes c.args.range
    c.args.editor.now c.args.stale.now.items c.requires.table c.head-cell.result
    (subst (λ cell. HasComeTo c.args.range 0 cell) (sym c.head-cell.ensures.head) (comes_to_head c.args.range c.head-cell.ensures.ordered))

pub returns-in_err-list_if_stale-clause-editor : goal.returns-in_err-list_if_stale-clause-editor
returns-in_err-list_if_stale-clause-editor g c =
    keeps_editor_on c.args.editor.now c.loop-place.editor c.list_if_stale.new.editor c.loop-place.invariant.kept c.list_if_stale.ensures.editor

pub loop-place-preserved : goal.loop-place-preserved
loop-place-preserved g c =
    let below : c.loop-place._place < length (cells_of c.args.range) = omega (arith, c.loop-place-test.true, c.cells-place-end.ensures.count) in
    range_goes_on _ _ _ _ _ _ c.loop-place.editor c.list_if_stale.new.editor c.loop-place.stale.items
    c.list_if_stale.new.stale.items c.loop-place._place c.loop-place.cell c.cell_behind-cell.result
    c.loop-place.invariant (c.loop-place.invariant.at.listed below) c.list_if_stale.ensures.table
    c.list_if_stale.ensures.editor c.in_ok-list_if_stale.ensures.listed
    (comes_to_next c.args.range c.loop-place._place c.loop-place.cell c.cell_behind-cell.result
    c.loop-place.invariant.at below c.cell_behind-cell.ensures.next c.cell_behind-cell.ensures.inside)

pub returns-clause-stale : goal.returns-clause-stale
returns-clause-stale g c =
    adds_all _ c.args.range _ c.loop-place._place c.args.stale.now.items c.loop-place.stale.items
    c.cells-place-end.ensures.count c.cells-place-end.ensures.listed c.loop-place-test.false
    c.loop-place.invariant.stale
