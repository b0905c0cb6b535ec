use Rattle.recalc_workers.proofs.SharingLemmas.{goes_on, lent_still}
use Rattle.recalc_workers.proofs.sharing.lend_all.Goals as goal

pub loop-place-preserved : goal.loop-place-preserved
loop-place-preserved g c =
    goes_on c.args.marks.now _ c.args.editor.now c.loop-place.editor c.tell_desk.new.editor c.args.desks.now
    c.loop-place.desks c.loop-place.place c.index-desks-place.result c.tell_desk.new.desk
    c.loop-place.invariant c.loop-place-test.true c.tell_desk.ensures.table c.tell_desk.ensures.editor
    (lent_still c.args.marks.now c.args.editor.now c.loop-place.editor _ c.tell_desk.new.desk c.loop-place.invariant.kept
    (record { table = c.tell_desk.ensures.desk; kept = c.tell_desk.ensures.kept; knows = c.tell_desk.ensures.knows }))
