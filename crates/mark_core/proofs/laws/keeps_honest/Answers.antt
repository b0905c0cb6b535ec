-- The opening state is honest, and each event keeps a state so.
use Rattle.mark_core.specs.Runs.{IsCodeless}
use Rattle.mark_core.proofs.Opening.{opening_honest}
use Rattle.mark_core.proofs.Runs.{keeps_honest}
use Rattle.mark_core.proofs.laws.keeps_honest.Goals as goal

pub returns-clause-opening : goal.returns-clause-opening
returns-clause-opening g c opening count codes =
    opening_honest (g.S.Subject.places c.args._subject.now) (g.S.Subject.worth c.args._subject.now) (g.S.Subject.touches c.args._subject.now) opening
    (record { count = count; codes = codes })

pub returns-clause-event : goal.returns-clause-event
returns-clause-event g c opening s event outcome after happens honest =
    keeps_honest (g.S.Subject.places c.args._subject.now) (g.S.Subject.worth c.args._subject.now) (g.S.Subject.touches c.args._subject.now)
    (g.S.Subject.untouched c.args._subject.now) (IsCodeless opening) s event outcome after happens honest
