use Rattle.std.proofs.Common.{arith, sym, ◌∙◌, ap, subst}
use Rattle.mark_words.specs.declared.tables.Doing.{Doing}
use Rattle.mark_words.specs.declared.tables.History.{History}
use Rattle.mark_core.specs.declared.events.Event.TheVariants.{See}
use Rattle.mark_words.specs.Steps.{OneMore}
use Rattle.mark_words.specs.Doing.{union_doing}
use Rattle.mark_words.proofs.SeeSteps.{sees}
use Rattle.mark_words.proofs.SeatSteps.{splits, joins}
use Rattle.mark_words.proofs.Meets.{met, met_knows, met_live, met_own, met_fits, met_clean, met_subject}
use Rattle.mark_words.proofs.marks.Marks.meet.Goals as goal

pub split_seat-note-requires : goal.split_seat-note-requires
split_seat-note-requires g c = (
  c.requires.other_table.same_table,
  omega (arith, c.args.self.now.sized),
  splits c.args.self.now.table.shared.key.subject.value
      (g.S.Subject.places c.args.self.now.table.shared.key.subject.value)
      (g.S.Subject.worth c.args.self.now.table.shared.key.subject.value)
      (g.S.Subject.touches c.args.self.now.table.shared.key.subject.value) (g.S.Subject.untouched c.args.self.now.table.shared.key.subject.value)
      c.args.self.now.table.shared.key.opening.value _ _ c.args.other.now.live,
)

pub join_seat-requires : goal.join_seat-requires
join_seat-requires g c =
    let note = c.split_seat-note.ensures.4 in
    let copy = ap (λ m. m.0) note in (
      c.requires.table.same_table,
      c.split_seat-note.ensures.3 ∙ c.requires.other_table.same_table,
      ap (λ m. m.1) note,
      omega (arith, c.args.self.now.sized),
      joins c.args.self.now.table.shared.key.subject.value
          (g.S.Subject.places c.args.self.now.table.shared.key.subject.value)
          (g.S.Subject.worth c.args.self.now.table.shared.key.subject.value)
          (g.S.Subject.touches c.args.self.now.table.shared.key.subject.value) (g.S.Subject.untouched c.args.self.now.table.shared.key.subject.value)
          c.args.self.now.table.shared.key.opening.value
          c.args.seat.now.seat.id c.args.seat.now.seat.me.0 c.split_seat-note.result.id c.split_seat-note.result.me.0 c.args.seat.now.live
          (ap (λ (h : History _ _). h.doing.view.spent) copy) (ap (λ (h : History _ _). h.doing.view.holds) copy)
          (ap (λ (h : History _ _). h.doing.editor) copy)
          (ap (λ (h : History _ _). h.doing.gathered) (sym copy)) (ap (λ (h : History _ _). h.steps) (sym copy)),
    )

pub load-requires : goal.load-requires
load-requires g c = (
  c.join_seat.ensures.0 ∙ c.requires.table.same_table,
  omega (arith, c.args.self.now.sized),
  sees c.args.self.now.table.shared.key.subject.value
      (g.S.Subject.places c.args.self.now.table.shared.key.subject.value)
      (g.S.Subject.worth c.args.self.now.table.shared.key.subject.value)
      (g.S.Subject.touches c.args.self.now.table.shared.key.subject.value) (g.S.Subject.untouched c.args.self.now.table.shared.key.subject.value)
      c.args.self.now.table.shared.key.opening.value _ _ _ _
      (ap (λ m. m.0.doing.view.spent) c.join_seat.ensures.2 ∙ c.args.seat.now.live),
)

pub invariant_of-seat : goal.invariant_of-seat
invariant_of-seat g c =
    let is = ap (λ m. m.0.doing) c.join_seat.ensures.2
    ∙ ap (λ (d : Doing _ _). union_doing c.args.seat.now.seat.me.0.doing d)
    (ap (λ m. m.0.doing) c.split_seat-note.ensures.4) in
    let same = ap (λ z. z.words) (c.load.ensures.0 ∙ c.join_seat.ensures.0) in
    record {
      live = met_live _ c.args.seat.now.seat.me.0.doing c.args.other.now.seat.me.0.doing c.join_seat.new.seat.me
          c.load.new.seat.me c.load.result is c.load.ensures.2 c.args.seat.now.knows_all ∙ c.args.seat.now.live;
      bare = c.load.ensures.2.slots ∙ ap (λ m. m.1) c.join_seat.ensures.2 ∙ c.args.seat.now.bare;
      has_own =
          met_own _ c.args.seat.now.seat.me.0.doing c.args.other.now.seat.me.0.doing c.join_seat.new.seat.me
          c.load.new.seat.me c.load.result is c.load.ensures.2 c.args.seat.now.knows_all
          c.args.seat.now.seat.table_id.words c.load.new.seat.table_id.words c.args.seat.now.editor_marks same c.args.seat.now.has_own;
      knows_all = met_knows _ c.args.seat.now.seat.me.0.doing c.args.other.now.seat.me.0.doing c.join_seat.new.seat.me
          c.load.new.seat.me c.load.result is c.load.ensures.2 c.args.seat.now.knows_all;
      fits =
          met_fits _ c.args.seat.now.seat.me.0.doing c.args.other.now.seat.me.0.doing c.join_seat.new.seat.me
          c.load.new.seat.me c.load.result is c.load.ensures.2 c.args.seat.now.knows_all
          c.args.seat.now.fits c.args.other.now.fits;
    }

pub returns-clause-met : goal.returns-clause-met
returns-clause-met g c =
    let is = ap (λ m. m.0.doing) c.join_seat.ensures.2
    ∙ ap (λ (d : Doing _ _). union_doing c.args.seat.now.seat.me.0.doing d)
    (ap (λ m. m.0.doing) c.split_seat-note.ensures.4) in
    met _ c.args.seat.now.seat.me.0.doing c.args.other.now.seat.me.0.doing c.join_seat.new.seat.me c.load.new.seat.me
    c.load.result is c.load.ensures.2 c.args.seat.now.knows_all

pub returns-clause-clean : goal.returns-clause-clean
returns-clause-clean g c =
    let is = ap (λ m. m.0.doing) c.join_seat.ensures.2
    ∙ ap (λ (d : Doing _ _). union_doing c.args.seat.now.seat.me.0.doing d)
    (ap (λ m. m.0.doing) c.split_seat-note.ensures.4) in
    met_clean _ c.args.seat.now.seat.me.0.doing c.args.other.now.seat.me.0.doing c.join_seat.new.seat.me
    c.load.new.seat.me c.load.result is c.load.ensures.2 c.args.seat.now.knows_all
    (g.S.Subject.touches c.args.self.now.table.shared.key.subject.value)

pub returns-clause-same : goal.returns-clause-same
returns-clause-same g c =
    let is = ap (λ m. m.0.doing) c.join_seat.ensures.2
    ∙ ap (λ (d : Doing _ _). union_doing c.args.seat.now.seat.me.0.doing d)
    (ap (λ m. m.0.doing) c.split_seat-note.ensures.4) in
    record {
      same_table = c.load.ensures.0 ∙ c.join_seat.ensures.0 ∙ c.requires.table.same_table;
      same_subject =
          met_subject _ c.args.seat.now.seat.me.0.doing c.args.other.now.seat.me.0.doing c.join_seat.new.seat.me
          c.load.new.seat.me c.load.result is c.load.ensures.2 c.args.seat.now.knows_all
          ∙ c.requires.table.same_subject;
      same_places = c.requires.table.same_places;
    }

pub returns-clause-step : goal.returns-clause-step
returns-clause-step g c =
    subst (λ n. OneMore c.args.seat.now.seat.me.0.steps c.load.new.seat.me.0.steps See n) (sym (ap (λ (d : Doing _ _). d.view.seen) c.load.ensures.2.doing))
    (subst (λ l. OneMore l c.load.new.seat.me.0.steps See c.load.result) (ap (λ m. m.0.steps) c.join_seat.ensures.2) c.load.ensures.2.one)
