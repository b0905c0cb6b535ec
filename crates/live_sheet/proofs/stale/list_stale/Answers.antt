use Rattle.recalc_workers.proofs.SharingLemmas.{keeps_editor_on}
use Rattle.live_sheet.proofs.StaleLemmas.{ranges_go_on}
use Rattle.live_sheet.proofs.stale.list_stale.Goals as goal

pub returns-in_err-list_stale_in-clause-editor : goal.returns-in_err-list_stale_in-clause-editor
returns-in_err-list_stale_in-clause-editor g c =
    keeps_editor_on c.args.editor.now c.loop-range.editor c.list_stale_in.new.editor c.loop-range.invariant.kept c.list_stale_in.ensures.editor

pub loop-range-preserved : goal.loop-range-preserved
loop-range-preserved g c =
    ranges_go_on _ _ _ _ _ c.loop-range.editor c.list_stale_in.new.editor c.loop-range.stale.items
    c.list_stale_in.new.stale.items c.loop-range.range-index c.range-item.result
    c.loop-range.invariant c.requires.disjoint c.loop-range-test.true c.range-item.is c.list_stale_in.ensures.table
    c.list_stale_in.ensures.editor c.in_ok-list_stale_in.ensures.stale
