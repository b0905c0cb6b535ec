use Rattle.recalc_workers.proofs.SharingLemmas.{keeps_editor_on}
use Rattle.live_sheet.proofs.stocking.put_from.Goals as goal

pub loop-place-preserved : goal.loop-place-preserved
loop-place-preserved c =
    record {
      table = c.put_where_marked.ensures.table;
      editor =
          keeps_editor_on c.args.editor.now c.loop-place.editor c.put_where_marked.new.editor c.loop-place.invariant.editor
          c.put_where_marked.ensures.editor;
      slots = c.put_where_marked.ensures.slots;
    }
