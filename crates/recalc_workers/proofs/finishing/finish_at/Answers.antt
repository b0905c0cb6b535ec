use Rattle.std.proofs.Common.{◌∙◌, sym}
use Rattle.recalc_workers.proofs.WorkLemmas.{may_put, may_finish, has_finished}
use Rattle.recalc_workers.proofs.finishing.finish_at.Goals as goal

pub put-requires-clause-held : goal.put-requires-clause-held
put-requires-clause-held g c κs within =
    may_put c.args.seat.now c.claim.new.seat c.args.place c.requires.free c.in_ok-claim.ensures.taken (g.S.Subject.worth _) c.args.word c.requires.worth

pub finish-requires-clause-computed : goal.finish-requires-clause-computed
finish-requires-clause-computed g c κs within =
    may_finish c.args.seat.now c.claim.new.seat c.args.place c.requires.free c.in_ok-claim.ensures.taken c.put.new.seat c.args.word c.put.ensures.doing
    (g.S.Subject.worth _) (g.S.Subject.touches _) c.args.read.mark c.requires.worth c.requires.last

pub returns-clause-finished : goal.returns-clause-finished
returns-clause-finished g c =
    has_finished c.args.seat.now c.claim.new.seat c.args.place c.requires.free c.in_ok-claim.ensures.taken
    c.put.new.seat c.args.word c.put.ensures.doing c.finish.new.seat c.args.read.mark c.finish.ensures.doing
    c.args.read.clean (c.finish.ensures.same.same_table ∙ sym c.requires.table.same_table) c.in_ok-claim.ensures.step c.put.ensures.step c.finish.ensures.step
