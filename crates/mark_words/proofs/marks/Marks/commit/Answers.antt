use Rattle.std.proofs.Common.{arith, ◌+◌, sym, ◌∙◌, ap, subst}
use Rattle.std.proofs.lemmas.Option.{same_Some}
use Rattle.mark_core.specs.declared.events.Event.TheVariants.{Commit}
use Rattle.mark_words.specs.Doing.{with_commit}
use Rattle.mark_words.specs.Steps.{OneMore}
use Rattle.mark_words.specs.declared.tables.Doing.{Doing}
use Rattle.mark_words.proofs.EditSteps.{commits_some}
use Rattle.mark_words.proofs.EditorMarkLemmas.{own_committed, knows_committed, fits_committed}
use Rattle.mark_words.proofs.marks.Marks.commit.Goals as goal

pub store-requires : goal.store-requires
store-requires g c = (
  c.requires.table.same_table,
  omega (arith, c.args.self.now.sized),
  commits_some c.args.self.now.table.shared.key.subject.value
      (g.S.Subject.places c.args.self.now.table.shared.key.subject.value)
      (g.S.Subject.worth c.args.self.now.table.shared.key.subject.value)
      (g.S.Subject.touches c.args.self.now.table.shared.key.subject.value) (g.S.Subject.untouched c.args.self.now.table.shared.key.subject.value)
      c.args.self.now.table.shared.key.opening.value _ _ _ _ _ c.args.seat.now.live c.requires.editor c.requires.pending c.requires.marked
      (ap (λ n. n + 1) (c.args.seat.now.has_own.count c.in-Some.own (sym c.take.ensures.value ∙ c.in-Some.is))),
)

pub invariant_of-seat : goal.invariant_of-seat
invariant_of-seat g c =
    let told = c.store.ensures.2 in
    record {
      live = ap (λ (d : Doing _ _). d.view.spent) told.doing ∙ c.args.seat.now.live;
      bare = told.slots ∙ c.args.seat.now.bare;
      has_own =
          own_committed c.args.seat.now.seat.table_id.words c.store.new.seat.table_id.words
          (ap (λ z. z.words) c.store.ensures.0) c.args.seat.now.seat.me.0.doing c.store.new.seat.me.0.doing
          c.args.seat.now.editor_marks c.in-Some.own c.with_count.result (sym c.take.ensures.value ∙ c.in-Some.is) c.args.seat.now.has_own
          told.entry told.doing c.with_count.ensures.count c.with_count.ensures.marks;
      knows_all = knows_committed c.args.seat.now.seat.me.0.doing c.store.new.seat.me.0.doing c.args.seat.now.knows_all told.entry told.doing;
      fits =
          fits_committed c.args.seat.now.seat.me.0.doing c.store.new.seat.me.0.doing c.args.seat.now.fits told.entry
          (c.args.seat.now.knows_all.number c.requires.editor c.requires.pending) told.doing;
    }

pub returns-clause-doing : goal.returns-clause-doing
returns-clause-doing g c entry pending =
    let told = c.store.ensures.2 in
    told.doing
    ∙ ap (λ x. with_commit c.args.seat.now.seat.me.0.doing x) (same_Some told.entry entry (sym told.pending ∙ pending))

pub returns-clause-step : goal.returns-clause-step
returns-clause-step g c entry pending =
    let told = c.store.ensures.2 in
    subst (λ x. OneMore c.args.seat.now.seat.me.0.steps c.store.new.seat.me.0.steps (λ view. Commit view x)
    (c.in-Some.own.count + 1)) (same_Some told.entry entry (sym told.pending ∙ pending)) told.one

pub returns-clause-same : goal.returns-clause-same
returns-clause-same g c =
    record {
      same_table = c.store.ensures.0 ∙ c.requires.table.same_table;
      same_subject = ap (λ (d : Doing _ _). d.subject) c.store.ensures.2.doing ∙ c.requires.table.same_subject;
      same_places = c.requires.table.same_places;
    }
