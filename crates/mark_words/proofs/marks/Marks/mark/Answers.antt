use Rattle.std.proofs.Common.{arith, sym, ◌∙◌, ap, refl, get_or}
use Rattle.mark_words.specs.declared.tables.Doing.{Doing}
use Rattle.mark_words.proofs.EditSteps.{marks_place}
use Rattle.mark_words.proofs.EditorMarkLemmas.{own_marked, knows_marked, fits_marked}
use Rattle.mark_words.proofs.marks.Marks.mark.Goals as goal

pub compare_exchange_with-requires : goal.compare_exchange_with-requires
compare_exchange_with-requires g c = (
  c.requires.table.same_table,
  omega (arith, c.args.self.now.sized, c.requires.there),
  marks_place c.args.self.now.table.shared.key.subject.value
      (g.S.Subject.places c.args.self.now.table.shared.key.subject.value)
      (g.S.Subject.worth c.args.self.now.table.shared.key.subject.value)
      (g.S.Subject.touches c.args.self.now.table.shared.key.subject.value) (g.S.Subject.untouched c.args.self.now.table.shared.key.subject.value)
      c.args.self.now.table.shared.key.opening.value _ _ _ _ c.args.entry.now c.args.place c.mark-old.result c.args.number
      c.args.seat.now.live c.requires.editor c.requires.there c.requires.idle c.requires.touched c.requires.number c.mark-old.result
      (c.mark-old.ensures
      ∙ ap (λ l. get_or l c.args.place c.mark-old.result) (c.args.seat.now.has_own.marks c.in-Some.own (sym c.take.ensures.value ∙ c.in-Some.is)))
      refl refl refl,
)

pub invariant_of-seat : goal.invariant_of-seat
invariant_of-seat g c =
    let told = c.compare_exchange_with.ensures.2 in
    let made = told.doing c.args.place c.args.entry.now refl refl in
    record {
      live = ap (λ (d : Doing _ _). d.view.spent) made ∙ c.args.seat.now.live;
      bare = told.slots ∙ c.args.seat.now.bare;
      has_own =
          own_marked c.args.seat.now.seat.table_id.words c.compare_exchange_with.new.seat.table_id.words
          (ap (λ z. z.words) c.compare_exchange_with.ensures.0) c.args.seat.now.seat.me.0.doing c.compare_exchange_with.new.seat.me.0.doing
          c.args.seat.now.editor_marks c.in-Some.own c.with_mark.result (sym c.take.ensures.value ∙ c.in-Some.is) c.args.seat.now.has_own
          c.args.entry.now c.args.place c.args.number made c.with_mark.ensures.count c.with_mark.ensures.marks;
      knows_all = knows_marked c.args.seat.now.seat.me.0.doing c.compare_exchange_with.new.seat.me.0.doing
          c.args.seat.now.knows_all c.args.entry.now c.args.place c.args.number c.requires.number c.requires.room made;
      fits = fits_marked c.args.seat.now.seat.me.0.doing c.compare_exchange_with.new.seat.me.0.doing
          c.args.seat.now.fits c.args.entry.now c.args.place c.args.number made;
    }

pub returns-clause-same : goal.returns-clause-same
returns-clause-same g c =
    let made = c.compare_exchange_with.ensures.2.doing c.args.place c.args.entry.now refl refl in
    record {
      same_table = c.compare_exchange_with.ensures.0 ∙ c.requires.table.same_table;
      same_subject = ap (λ (d : Doing _ _). d.subject) made ∙ c.requires.table.same_subject;
      same_places = c.requires.table.same_places;
    }

pub returns-clause-step : goal.returns-clause-step
returns-clause-step g c = c.compare_exchange_with.ensures.2.one c.args.place c.args.entry.now refl refl
