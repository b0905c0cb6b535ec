-- The cells that were asked for are put, and then those that were found: what is known of the first stays.
use Rattle.std.proofs.Common.{get_or}
use Rattle.mark_words.specs.Tokens.{subject_of}
use Rattle.recalc_workers.proofs.SharingLemmas.{keeps_editor_on}
use Rattle.live_sheet.proofs.DeskLemmas.{desks_of_table, desks_on, desks_themselves, editor_still, on_ok}
use Rattle.live_sheet.proofs.StaleLemmas.{cell_still, free_still}
use Rattle.live_sheet.proofs.settle_range.put_values.Goals as goal

pub returns-in_err-compute-clause-desks : goal.returns-in_err-compute-clause-desks
returns-in_err-compute-clause-desks g c = desks_themselves c.args.marks.now c.args.desks.now c.requires.desks

pub stale_found-requires-clause-free : goal.stale_found-requires-clause-free
stale_found-requires-clause-free g c κs within =
    free_still c.args.editor.now c.put.new.editor c.put.ensures.editor
    (record { editor = c.requires.editor.editor; idle = c.requires.editor.idle })

pub returns-in_err-found-clause-editor : goal.returns-in_err-found-clause-editor
returns-in_err-found-clause-editor g c = keeps_editor_on c.args.editor.now c.put.new.editor c.stale_found.new.editor
    c.put.ensures.editor c.stale_found.ensures.editor

pub put-requires-2-clause-editor : goal.put-requires-2-clause-editor
put-requires-2-clause-editor g c κs within =
    editor_still c.args.marks.now (g.S.SheetSubject.opening (subject_of c.args.marks.now)) c.args.sheet.now c.args.editor.now c.stale_found.new.editor
    c.requires.editor c.stale_found.ensures.table
    (keeps_editor_on c.args.editor.now c.put.new.editor c.stale_found.new.editor c.put.ensures.editor c.stale_found.ensures.editor)

pub put-requires-2-clause-held : goal.put-requires-2-clause-held
put-requires-2-clause-held g c κs within = rw (c.deref.ensures.value) c.in_ok-found.ensures.held

pub put-requires-2-clause-desks : goal.put-requires-2-clause-desks
put-requires-2-clause-desks g c κs within = desks_of_table c.args.marks.now c.args.desks.now c.put.new.desks c.put.ensures.desks

pub returns-in_err-put-2-clause-editor : goal.returns-in_err-put-2-clause-editor
returns-in_err-put-2-clause-editor g c =
    keeps_editor_on c.args.editor.now c.stale_found.new.editor c.put-2.new.editor
    (keeps_editor_on c.args.editor.now c.put.new.editor c.stale_found.new.editor c.put.ensures.editor c.stale_found.ensures.editor)
    c.put-2.ensures.editor

pub returns-in_err-put-2-clause-desks : goal.returns-in_err-put-2-clause-desks
returns-in_err-put-2-clause-desks g c =
    desks_on c.args.marks.now c.args.desks.now c.put.new.desks c.put-2.new.desks c.put.ensures.desks c.put-2.ensures.desks

pub returns-clause-editor : goal.returns-clause-editor
returns-clause-editor g c =
    keeps_editor_on c.args.editor.now c.stale_found.new.editor c.put-2.new.editor
    (keeps_editor_on c.args.editor.now c.put.new.editor c.stale_found.new.editor c.put.ensures.editor c.stale_found.ensures.editor)
    c.put-2.ensures.editor

pub returns-clause-desks : goal.returns-clause-desks
returns-clause-desks g c =
    desks_on c.args.marks.now c.args.desks.now c.put.new.desks c.put-2.new.desks c.put.ensures.desks c.put-2.ensures.desks

pub returns-clause-clean : goal.returns-clause-clean
returns-clause-clean g c = λ k d below.
    cell_still (g.S.Subject.touches (subject_of c.args.marks.now)) c.args.sheet.now.sizes c.put.new.editor c.put-2.new.editor
    (keeps_editor_on c.put.new.editor c.stale_found.new.editor c.put-2.new.editor c.stale_found.ensures.editor c.put-2.ensures.editor)
    (get_or c.args.cells.now k d) (c.in_ok-put.ensures.clean k d below)
