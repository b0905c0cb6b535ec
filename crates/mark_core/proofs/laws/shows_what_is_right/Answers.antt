-- What is right of each read says what it shows.
use Rattle.std.proofs.Common.{subst}
use Rattle.mark_core.specs.declared.answers.Seen.{Seen}
use Rattle.mark_core.specs.Answers.{Shows}
use Rattle.mark_core.specs.Runs.{IsCodeless}
use Rattle.mark_core.proofs.ReadLaws.{read_right, value_shown, newer_shown, stale_shown, cell_shown}
use Rattle.mark_core.proofs.laws.shows_what_is_right.Goals as goal

pub returns-clause-value : goal.returns-clause-value
returns-clause-value g c opening s view read word shown honest among had shows value is =
    value_shown (g.S.Subject.places c.args._subject.now) (g.S.Subject.worth c.args._subject.now) (g.S.Subject.touches c.args._subject.now)
    (IsCodeless opening) s view read word honest among had value (subst (λ (x : Seen). Shows read.number read.clean word read.mark x) is shows)

pub returns-clause-newer : goal.returns-clause-newer
returns-clause-newer g c opening s view read word shown honest among had shows mark is =
    newer_shown (g.S.Subject.places c.args._subject.now) (g.S.Subject.worth c.args._subject.now) (g.S.Subject.touches c.args._subject.now)
    (IsCodeless opening) s view read word honest among had mark (subst (λ (x : Seen). Shows read.number read.clean word read.mark x) is shows)

pub returns-clause-stale : goal.returns-clause-stale
returns-clause-stale g c opening s view read word shown honest among had shows mark is =
    stale_shown (g.S.Subject.places c.args._subject.now) (g.S.Subject.worth c.args._subject.now) (g.S.Subject.touches c.args._subject.now)
    (IsCodeless opening) s view read word honest among had mark (subst (λ (x : Seen). Shows read.number read.clean word read.mark x) is shows)

pub returns-clause-cell : goal.returns-clause-cell
returns-clause-cell g c opening s view read word shown honest among had shows =
    cell_shown (g.S.Subject.places c.args._subject.now) (g.S.Subject.worth c.args._subject.now) (g.S.Subject.touches c.args._subject.now)
    (IsCodeless opening) s view read word honest among had shown shows

pub returns-clause-legal : goal.returns-clause-legal
returns-clause-legal g c opening s view read honest among =
    let right = read_right (g.S.Subject.places c.args._subject.now) (g.S.Subject.worth c.args._subject.now) (g.S.Subject.touches c.args._subject.now)
    (IsCodeless opening) s view read honest among in
    (right.floor, right.legal)
