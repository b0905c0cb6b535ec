use Rattle.recalc_workers.proofs.CauseLemmas.{done_comes, lost_comes}
use Rattle.recalc_workers.proofs.working.finish.Goals as goal

pub returns-in-Ok-clause-comes : goal.returns-in-Ok-clause-comes
returns-in-Ok-clause-comes g c =
    done_comes (g.S.SheetSubject.opening _) c.args.cell c.args.seat.now c.finish_at.new.seat c.args.place c.args.read
    c.args.word c.requires.place c.requires.free c.requires.stale c.in-Ok.ensures.finished

pub returns-in-Err-clause-comes : goal.returns-in-Err-clause-comes
returns-in-Err-clause-comes g c =
    lost_comes (g.S.SheetSubject.opening _) c.args.cell c.args.seat.now c.finish_at.new.seat c.args.place c.args.read
    c.in-Err.found c.requires.place c.requires.free c.in-Err.ensures.lost
