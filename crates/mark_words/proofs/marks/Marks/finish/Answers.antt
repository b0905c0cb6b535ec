use Rattle.std.proofs.Common.{rules, arith, refl}
use Rattle.mark_words.proofs.StepLemmas.{same_word}
use Rattle.mark_words.proofs.WorkSteps.{finishes}
use Rattle.mark_words.proofs.TokenLemmas.{rest_own, rest_knows, rest_fits, finish_clean}
use Rattle.mark_words.proofs.marks.Marks.finish.Goals as goal

pub store-requires : goal.store-requires
store-requires g c = (
  c.requires.table.same_table,
  omega (arith, c.args.self.now.sized, c.requires.there),
  finishes c.args.self.now.table.shared.key.subject.value
      (g.S.Subject.places c.args.self.now.table.shared.key.subject.value)
      (g.S.Subject.worth c.args.self.now.table.shared.key.subject.value)
      (g.S.Subject.touches c.args.self.now.table.shared.key.subject.value) (g.S.Subject.untouched c.args.self.now.table.shared.key.subject.value)
      c.args.self.now.table.shared.key.opening.value _ _ _ _ c.args.place
      c.args.seat.now.live c.requires.there c.args.mark c.word_of-free.result c.requires.computed c.word_of-free.ensures refl refl,
)

pub invariant_of-seat-clause-has_own : goal.invariant_of-seat-clause-has_own
invariant_of-seat-clause-has_own g c = search (rules, rest_own)

pub invariant_of-seat-clause-knows_all : goal.invariant_of-seat-clause-knows_all
invariant_of-seat-clause-knows_all g c = search (rules, rest_knows)

pub invariant_of-seat-clause-fits : goal.invariant_of-seat-clause-fits
invariant_of-seat-clause-fits g c = search (rules, rest_fits)

pub returns-clause-doing : goal.returns-clause-doing
returns-clause-doing g c = search rules

pub returns-clause-clean : goal.returns-clause-clean
returns-clause-clean g c log last = finish_clean _ log _ _ _ _ (returns-clause-doing g c) last

pub returns-clause-step : goal.returns-clause-step
returns-clause-step g c = same_word _ _ _ _ _ c.word_of-free.ensures (c.store.ensures.2.one c.args.place c.args.mark refl c.word_of-free.ensures)
