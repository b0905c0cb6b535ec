use Rattle.std.proofs.Common.{rules, arith, refl}
use Rattle.mark_words.proofs.WorkSteps.{puts}
use Rattle.mark_words.proofs.TokenLemmas.{rest_own, rest_knows, rest_fits}
use Rattle.mark_words.proofs.marks.Marks.put.Goals as goal

pub store-requires : goal.store-requires
store-requires g c = (
  c.requires.table.same_table,
  omega (arith, c.args.self.now.sized, c.requires.there),
  puts c.args.self.now.table.shared.key.subject.value
      (g.S.Subject.places c.args.self.now.table.shared.key.subject.value)
      (g.S.Subject.worth c.args.self.now.table.shared.key.subject.value)
      (g.S.Subject.touches c.args.self.now.table.shared.key.subject.value) (g.S.Subject.untouched c.args.self.now.table.shared.key.subject.value)
      c.args.self.now.table.shared.key.opening.value _ _ _ _ c.args.place
      c.args.seat.now.live c.requires.there c.args.word c.requires.held refl refl,
)

pub invariant_of-seat-clause-has_own : goal.invariant_of-seat-clause-has_own
invariant_of-seat-clause-has_own g c = search (rules, rest_own)

pub invariant_of-seat-clause-knows_all : goal.invariant_of-seat-clause-knows_all
invariant_of-seat-clause-knows_all g c = search (rules, rest_knows)

pub invariant_of-seat-clause-fits : goal.invariant_of-seat-clause-fits
invariant_of-seat-clause-fits g c = search (rules, rest_fits)

pub returns-clause-step : goal.returns-clause-step
returns-clause-step g c = c.store.ensures.2.one c.args.place refl
