use Rattle.std.proofs.Common.{rules, arith, refl, sym, ap, ◌∙◌}
use Rattle.mark_words.specs.Words.{word_of_clean}
use Rattle.mark_words.proofs.StepLemmas.{same_word}
use Rattle.mark_words.proofs.TableLemmas.{code_of-clean_at}
use Rattle.mark_words.proofs.WorkSteps.{claims}
use Rattle.mark_words.proofs.TokenLemmas.{rest_own, rest_knows, rest_fits}
use Rattle.mark_words.proofs.marks.Marks.claim.Goals as goal

pub compare_exchange-found-requires : goal.compare_exchange-found-requires
compare_exchange-found-requires g c = (
  c.requires.table.same_table,
  omega (arith, c.args.self.now.sized, c.requires.there),
  claims c.args.self.now.table.shared.key.subject.value
      (g.S.Subject.places c.args.self.now.table.shared.key.subject.value)
      (g.S.Subject.worth c.args.self.now.table.shared.key.subject.value)
      (g.S.Subject.touches c.args.self.now.table.shared.key.subject.value) (g.S.Subject.untouched c.args.self.now.table.shared.key.subject.value)
      c.args.self.now.table.shared.key.opening.value _ _ _ _ c.args.place
      c.args.seat.now.live c.requires.there c.args.seen c.word_of-old.result c.word_of-new.result c.requires.stale
      c.word_of-old.ensures c.word_of-new.ensures refl refl,
)

pub invariant_of-seat-clause-has_own : goal.invariant_of-seat-clause-has_own
invariant_of-seat-clause-has_own g c = search (rules, rest_own)

pub invariant_of-seat-clause-knows_all : goal.invariant_of-seat-clause-knows_all
invariant_of-seat-clause-knows_all g c = search (rules, rest_knows)

pub invariant_of-seat-clause-fits : goal.invariant_of-seat-clause-fits
invariant_of-seat-clause-fits g c = search (rules, rest_fits)

pub returns-then-found-old-clause-step : goal.returns-then-found-old-clause-step
returns-then-found-old-clause-step g c =
    same_word _ _ _ _ _ (c.if-found-old.true ∙ c.word_of-old.ensures) (c.compare_exchange-found.ensures.2.one
    c.args.place c.args.seen refl c.word_of-old.ensures)

pub returns-else-found-old-clause-step : goal.returns-else-found-old-clause-step
returns-else-found-old-clause-step g c =
    same_word _ _ _ _ _ (sym (ap word_of_clean c.clean_of.ensures ∙ code_of-clean_at c.compare_exchange-found.result))
    (c.compare_exchange-found.ensures.2.one c.args.place c.args.seen refl c.word_of-old.ensures)
