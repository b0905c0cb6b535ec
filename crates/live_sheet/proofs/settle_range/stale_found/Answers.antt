use Rattle.recalc_workers.proofs.SharingLemmas.{keeps_editor_on}
use Rattle.live_sheet.proofs.StaleLemmas.{free_still}
use Rattle.live_sheet.proofs.settle_range.stale_found.Goals as goal

pub list_if_kept-requires-clause-free : goal.list_if_kept-requires-clause-free
list_if_kept-requires-clause-free g c κs within = free_still c.args.editor.now c.loop-cell.editor c.loop-cell.invariant.kept c.requires.free

pub returns-in_err-list_if_kept-clause-editor : goal.returns-in_err-list_if_kept-clause-editor
returns-in_err-list_if_kept-clause-editor g c =
    keeps_editor_on c.args.editor.now c.loop-cell.editor c.list_if_kept.new.editor c.loop-cell.invariant.kept c.list_if_kept.ensures.editor

pub loop-cell-preserved : goal.loop-cell-preserved
loop-cell-preserved g c =
    record {
      table = c.list_if_kept.ensures.table;
      kept = keeps_editor_on c.args.editor.now c.loop-cell.editor c.list_if_kept.new.editor c.loop-cell.invariant.kept c.list_if_kept.ensures.editor;
      inside = c.in_ok-list_if_kept.ensures.inside;
      held = c.in_ok-list_if_kept.ensures.held;
    }
