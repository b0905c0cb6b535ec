use Rattle.std.proofs.Common.{rules, arith, refl}
use Rattle.mark_words.proofs.ReadSteps.{reads_mark, ends, learns_clean}
use Rattle.mark_words.proofs.TokenLemmas.{rest_own, rest_knows, mark_read_fits}
use Rattle.mark_words.proofs.marks.Marks.read_mark.Goals as goal

pub load-requires : goal.load-requires
load-requires g c = (
  c.requires.table.same_table,
  omega (arith, c.args.self.now.sized, c.requires.there),
  reads_mark c.args.self.now.table.shared.key.subject.value g.S.Subject.places g.S.Subject.worth
      g.S.Subject.touches (g.S.Subject.untouched c.args.self.now.table.shared.key.subject.value)
      c.args.self.now.table.shared.key.opening.value _ _ _ _ c.args.place
      c.args.seat.now.live c.requires.there refl,
)

pub invariant_of-seat-clause-has_own : goal.invariant_of-seat-clause-has_own
invariant_of-seat-clause-has_own g c = search (rules, rest_own)

pub invariant_of-seat-clause-knows_all : goal.invariant_of-seat-clause-knows_all
invariant_of-seat-clause-knows_all g c = search (rules, rest_knows)

pub invariant_of-seat-clause-fits : goal.invariant_of-seat-clause-fits
invariant_of-seat-clause-fits g c =
    mark_read_fits c.args.seat.now.seat.me.0.doing c.load.new.seat.me.0.doing c.load.ensures.2.rest c.args.place
    c.load.result (c.load.ensures.2.doing c.args.place refl) c.args.seat.now.fits

pub returns-clause-ends : goal.returns-clause-ends
returns-clause-ends g c = ends c.args.seat.now.seat.me.0.doing c.load.new.seat.me.0.doing c.args.place c.load.result
    c.load.ensures.2.within (c.load.ensures.2.doing c.args.place refl)

pub returns-clause-tells : goal.returns-clause-tells
returns-clause-tells g c = c.load.ensures.2.tells c.args.place c.args.self.now.table.shared.key.subject.value refl c.requires.table.same_subject

pub returns-clause-clean : goal.returns-clause-clean
returns-clause-clean g c =
    learns_clean (g.S.Subject.touches c.args.self.now.table.shared.key.subject.value) c.args.seat.now.seat.me.0.doing
    c.load.new.seat.me.0.doing c.args.place c.load.result
    (ends c.args.seat.now.seat.me.0.doing c.load.new.seat.me.0.doing c.args.place c.load.result c.load.ensures.2.within
    (c.load.ensures.2.doing c.args.place refl))
    (λ half begun of. (c.load.ensures.2.tells c.args.place c.args.self.now.table.shared.key.subject.value refl
    c.requires.table.same_subject half begun of).last)

pub returns-clause-step : goal.returns-clause-step
returns-clause-step g c = c.load.ensures.2.one c.args.place refl
