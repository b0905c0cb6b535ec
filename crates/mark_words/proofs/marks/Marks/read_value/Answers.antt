use Rattle.std.proofs.Common.{rules, arith, refl}
use Rattle.mark_words.proofs.ReadSteps.{reads_value, goes_on}
use Rattle.mark_words.proofs.TokenLemmas.{rest_own, rest_knows, value_read_fits}
use Rattle.mark_words.proofs.marks.Marks.read_value.Goals as goal

pub load-requires : goal.load-requires
load-requires g c = (
  c.requires.table.same_table,
  omega (arith, c.args.self.now.sized, c.requires.there),
  reads_value c.args.self.now.table.shared.key.subject.value
      (g.S.Subject.places c.args.self.now.table.shared.key.subject.value)
      (g.S.Subject.worth c.args.self.now.table.shared.key.subject.value)
      (g.S.Subject.touches c.args.self.now.table.shared.key.subject.value) (g.S.Subject.untouched c.args.self.now.table.shared.key.subject.value)
      c.args.self.now.table.shared.key.opening.value _ _ _ _ c.args.place
      c.args.seat.now.live c.requires.there refl,
)

pub invariant_of-seat-clause-has_own : goal.invariant_of-seat-clause-has_own
invariant_of-seat-clause-has_own g c = search (rules, rest_own)

pub invariant_of-seat-clause-knows_all : goal.invariant_of-seat-clause-knows_all
invariant_of-seat-clause-knows_all g c = search (rules, rest_knows)

pub invariant_of-seat-clause-fits : goal.invariant_of-seat-clause-fits
invariant_of-seat-clause-fits g c =
    value_read_fits c.args.seat.now.seat.me.0.doing c.load.new.seat.me.0.doing c.load.ensures.2.rest c.args.place
    c.load.result (c.load.ensures.2.doing c.args.place refl) c.args.seat.now.fits

pub returns-clause-goes_on : goal.returns-clause-goes_on
returns-clause-goes_on g c = goes_on c.args.seat.now.seat.me.0.doing c.load.new.seat.me.0.doing c.args.place
    c.load.result (c.load.ensures.2.doing c.args.place refl)

pub returns-clause-step : goal.returns-clause-step
returns-clause-step g c = c.load.ensures.2.one c.args.place refl
