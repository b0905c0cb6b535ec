use Rattle.mark_words.specs.Tokens.{subject_of}
use Rattle.recalc_workers.proofs.SettlingLemmas.{read_and_worked}
use Rattle.recalc_workers.proofs.VisitLemmas.{finished_by}
use Rattle.recalc_workers.proofs.clearing.try_to_clear.Goals as goal

pub returns-clause-worked : goal.returns-clause-worked
returns-clause-worked g c =
    read_and_worked c.args.seat.now c.read_place-read.new.seat c.finish_at.new.seat c.args.place
    c.read_place-read.result c.args.word c.finish_at.result c.requires.free
    c.read_place-read.ensures.read c.finish_at.ensures.finished c.finish_at.ensures.lost

pub returns-clause-finished : goal.returns-clause-finished
returns-clause-finished g c =
    finished_by (g.S.Subject.touches (subject_of c.args.marks.now)) c.args.seat.now c.read_place-read.new.seat
    c.finish_at.new.seat c.args.place c.read_place-read.result c.args.word c.finish_at.result
    c.read_place-read.ensures.read c.finish_at.ensures.finished c.finish_at.ensures.lost c.finish_at.ensures.clean
