use Rattle.std.proofs.Common.{rules, arith, refl, sym, ◌∙◌, ap}
use Rattle.mark_words.specs.Words.{word_of_clean}
use Rattle.mark_words.proofs.StepLemmas.{same_word}
use Rattle.mark_words.proofs.TableLemmas.{code_of-clean_at}
use Rattle.mark_words.proofs.ReadSteps.{reads_clean}
use Rattle.mark_words.proofs.TokenLemmas.{rest_own, rest_knows, clean_read_fits, begins}
use Rattle.mark_words.proofs.marks.Marks.read_clean.Goals as goal

pub load-requires : goal.load-requires
load-requires g c = (
  c.requires.table.same_table,
  omega (arith, c.args.self.now.sized, c.requires.there),
  reads_clean c.args.self.now.table.shared.key.subject.value
      (g.S.Subject.places c.args.self.now.table.shared.key.subject.value)
      (g.S.Subject.worth c.args.self.now.table.shared.key.subject.value)
      (g.S.Subject.touches c.args.self.now.table.shared.key.subject.value) (g.S.Subject.untouched c.args.self.now.table.shared.key.subject.value)
      c.args.self.now.table.shared.key.opening.value _ _ _ _ c.args.place
      c.args.seat.now.live c.requires.there refl,
)

pub invariant_of-seat-clause-has_own : goal.invariant_of-seat-clause-has_own
invariant_of-seat-clause-has_own g c = search (rules, rest_own)

pub invariant_of-seat-clause-knows_all : goal.invariant_of-seat-clause-knows_all
invariant_of-seat-clause-knows_all g c = search (rules, rest_knows)

pub invariant_of-seat-clause-fits : goal.invariant_of-seat-clause-fits
invariant_of-seat-clause-fits g c =
    clean_read_fits c.args.seat.now.seat.me.0.doing c.load.new.seat.me.0.doing c.load.ensures.2.rest c.args.place
    c.load.result (omega arith) (c.load.ensures.2.doing c.args.place refl) c.args.seat.now.fits

pub returns-clause-begins : goal.returns-clause-begins
returns-clause-begins g c = begins c.args.seat.now.seat.me.0.doing.view c.args.place _

pub returns-clause-step : goal.returns-clause-step
returns-clause-step g c =
    same_word _ _ _ _ _ (sym (ap word_of_clean c.clean_of.ensures ∙ code_of-clean_at c.load.result)) (c.load.ensures.2.one c.args.place refl)
