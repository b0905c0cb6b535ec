use Rattle.std.proofs.Common.{arith}
use Rattle.recalc_workers.proofs.SharingLemmas.{gathers_on}
use Rattle.recalc_workers.proofs.sharing.gather_all.Goals as goal

pub loop-place-preserved : goal.loop-place-preserved
loop-place-preserved g c =
    gathers_on c.args.marks.now c.args.editor.now c.loop-place.editor c.gather-wants.new.editor c.args.desks.now
    c.loop-place.desks c.loop-place.place c.loop-place.wants c.gather-wants.result
    c.index-desks-place.result c.gather-wants.new.desk c.loop-place.invariant c.loop-place-test.true c.gather-wants.ensures.table c.gather-wants.ensures.editor
    (record { table = c.gather-wants.ensures.desk; kept = c.gather-wants.ensures.kept }) c.gather-wants.ensures.knows c.gather-wants.ensures.wants

pub returns-clause-knows : goal.returns-clause-knows
returns-clause-knows g c = λ place desk inside. c.loop-place.invariant.knows place desk (omega (arith, c.loop-place-test.false)) inside
