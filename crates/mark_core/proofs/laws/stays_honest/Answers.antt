-- Each event keeps the state honest, and the opening state is honest.
use Rattle.mark_core.proofs.Runs.{honest_from_opening}
use Rattle.mark_core.proofs.laws.stays_honest.Goals as goal

pub returns-clause-in_order : goal.returns-clause-in_order
returns-clause-in_order g c = (λ s after. (λ r. r, λ r. r), λ s event events after. (λ r. r, λ r. r))

pub returns-clause-honest : goal.returns-clause-honest
returns-clause-honest g c opening events s count codes runs =
    honest_from_opening (g.S.Subject.places c.args._subject.now) (g.S.Subject.worth c.args._subject.now) (g.S.Subject.touches c.args._subject.now)
    (g.S.Subject.untouched c.args._subject.now) opening (record { count = count; codes = codes }) events s runs
