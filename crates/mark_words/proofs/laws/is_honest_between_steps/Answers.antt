-- What the rule says of its state.
use Rattle.mark_core.specs.States.{opening_state}
use Rattle.mark_words.proofs.RunLemmas.{run_of, honest_state}
use Rattle.mark_words.proofs.StepLemmas.{doing_at}
use Rattle.mark_words.proofs.TableLemmas.{words_shown}
use Rattle.mark_words.proofs.laws.is_honest_between_steps.Goals as goal

pub returns-clause-honest : goal.returns-clause-honest
returns-clause-honest g c t kept =
    honest_state c.args._marks.now.table.shared.key.subject.value (g.S.Subject.places c.args._marks.now.table.shared.key.subject.value)
    (g.S.Subject.worth c.args._marks.now.table.shared.key.subject.value) (g.S.Subject.touches c.args._marks.now.table.shared.key.subject.value)
    c.args._marks.now.table.shared.key.opening.value t kept (g.S.Subject.untouched c.args._marks.now.table.shared.key.subject.value)

pub returns-clause-events : goal.returns-clause-events
returns-clause-events g c t kept =
    run_of (g.S.Subject.worth c.args._marks.now.table.shared.key.subject.value) (g.S.Subject.touches c.args._marks.now.table.shared.key.subject.value)
    kept.events (opening_state c.args._marks.now.table.shared.key.opening.value) kept.core kept.run

pub returns-clause-words : goal.returns-clause-words
returns-clause-words g c t kept =
    words_shown t.words kept.core (g.S.Subject.places c.args._marks.now.table.shared.key.subject.value) (returns-clause-honest g c t kept).count kept.words

pub returns-clause-views : goal.returns-clause-views
returns-clause-views g c t kept seat history at live = kept.seats.views seat history.doing (doing_at t.views seat history at) live
