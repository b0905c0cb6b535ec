-- What one step more of a seat says of the events and of the words.
use Rattle.mark_core.specs.States.{opening_state}
use Rattle.mark_words.specs.Steps.{made_of}
use Rattle.mark_words.proofs.OrderLemmas.{one_event_more}
use Rattle.mark_words.proofs.WordLemmas.{one_event, has_word}
use Rattle.mark_words.proofs.SightLemmas.{sees_the_count}
use Rattle.mark_words.proofs.laws.takes_one_event_a_step.Goals as goal

pub returns-clause-last : goal.returns-clause-last
returns-clause-last g c t t' kept kept' seat before after event word one there others none none_after =
    one_event_more kept.events kept'.events t.views t'.views seat before after event word kept.steps kept'.steps there others none none_after one

pub returns-clause-words : goal.returns-clause-words
returns-clause-words g c t t' kept kept' seat before after event word one there others none none_after =
    one_event (g.S.Subject.worth c.args._marks.now.table.shared.key.subject.value) (g.S.Subject.touches c.args._marks.now.table.shared.key.subject.value)
    kept.events kept'.events (opening_state c.args._marks.now.table.shared.key.opening.value) kept.core kept'.core
    (made_of (event one.view) word) t.words t'.words
    kept.run kept'.run (returns-clause-last g c t t' kept kept' seat before after event word one there others none none_after) kept.words kept'.words

pub returns-clause-word : goal.returns-clause-word
returns-clause-word g c t t' kept kept' seat before after event word one there others none none_after =
    has_word (g.S.Subject.worth c.args._marks.now.table.shared.key.subject.value) (g.S.Subject.touches c.args._marks.now.table.shared.key.subject.value)
    kept.events kept'.events (opening_state c.args._marks.now.table.shared.key.opening.value) kept.core kept'.core
    (made_of (event one.view) word) t.words t'.words
    kept.run kept'.run (returns-clause-last g c t t' kept kept' seat before after event word one there others none none_after) kept.words kept'.words

pub returns-clause-sees : goal.returns-clause-sees
returns-clause-sees g c t t' kept kept' seat before after event word one there others none none_after view is live =
    sees_the_count c.args._marks.now.table.shared.key.subject.value (g.S.Subject.places c.args._marks.now.table.shared.key.subject.value)
    (g.S.Subject.worth c.args._marks.now.table.shared.key.subject.value) (g.S.Subject.touches c.args._marks.now.table.shared.key.subject.value)
    (g.S.Subject.untouched c.args._marks.now.table.shared.key.subject.value) c.args._marks.now.table.shared.key.opening.value
    t t' kept kept' seat before after event word one view is there others none none_after
    (returns-clause-last g c t t' kept kept' seat before after event word one there others none none_after) live
