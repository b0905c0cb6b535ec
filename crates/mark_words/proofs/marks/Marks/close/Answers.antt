use Rattle.std.proofs.Common.{◌≡◌, arith, sym, ◌∙◌, ap, [], ◌++◌, map}
use Rattle.mark_words.specs.declared.seats.Seat.{Seat}
use Rattle.mark_words.proofs.SeatSteps.{splits, gathers}
use Rattle.mark_words.proofs.CloseLemmas.{past_of, all_last, handed, no_items, closes, prefixes_closed, legal_closed}
use Rattle.mark_words.proofs.marks.Marks.close.Goals as goal

pub split_seat-witness-requires : goal.split_seat-witness-requires
split_seat-witness-requires g c = (
  c.requires.table.same_table,
  omega (arith, c.args.self.sized),
  splits c.args.self.table.shared.key.subject.value (g.S.Subject.places c.args.self.table.shared.key.subject.value)
      (g.S.Subject.worth c.args.self.table.shared.key.subject.value)
      (g.S.Subject.touches c.args.self.table.shared.key.subject.value) (g.S.Subject.untouched c.args.self.table.shared.key.subject.value)
      c.args.self.table.shared.key.opening.value _ _ c.args.editor.live,
)

pub join_seat-requires : goal.join_seat-requires
join_seat-requires g c =
    let inv = c.loop-other.invariant in (
      inv.same_table,
      all_last (λ (other : Seat _ _ _). other.seat.table_id ≡ c.args.self.table.shared.table_id) c.pop.new.self.items
          c.loop-other.others.items c.in-Some-pop.other c.in-Some-pop.ensures.items inv.tables,
      c.in-Some-pop.other.bare,
      omega (arith, c.args.self.sized),
      gathers c.args.self.table.shared.key.subject.value (g.S.Subject.places c.args.self.table.shared.key.subject.value)
          (g.S.Subject.worth c.args.self.table.shared.key.subject.value)
          (g.S.Subject.touches c.args.self.table.shared.key.subject.value) (g.S.Subject.untouched c.args.self.table.shared.key.subject.value)
          c.args.self.table.shared.key.opening.value _ _ _ _ inv.live inv.editor c.in-Some-pop.other.live,
    )

pub loop-other-preserved-in-Some-pop : goal.loop-other-preserved-in-Some-pop
loop-other-preserved-in-Some-pop g c =
    handed _ _ _ c.loop-other.all _ c.loop-other.others.items _ c.in-Some-pop.other c.loop-other.invariant c.in-Some-pop.ensures.items
    c.join_seat.ensures.0 c.join_seat.ensures.2

pub loop-other-preserved : goal.loop-other-preserved
loop-other-preserved g c =
    handed _ _ _ c.loop-other.all _ c.loop-other.others.items _ c.in-Some-pop.other c.loop-other.invariant c.in-Some-pop.ensures.items
    c.join_seat.ensures.0 c.join_seat.ensures.2

pub returns-clause-closed : goal.returns-clause-closed
returns-clause-closed g c =
    let inv = c.loop-other.invariant in
    let last = c.close_with-closed.ensures.values.2 in
    let split = c.split_seat-witness.ensures in
    let none : c.loop-other.others.items ≡ [] = no_items c.loop-other.others.items (omega (arith, c.in_default-pop.ensures.cases.0)) in
    closes g.S.Subject.places g.S.Subject.worth g.S.Subject.touches c.args.self c.args.editor c.args.others.items _ last.0 last.1.0
    c.loop-other.all.id c.loop-other.all.me.0 last.1.1 inv.live inv.editor (g.S.Subject.untouched c.args.self.table.shared.key.subject.value) last.2
    (inv.view ∙ ap (λ m. m.0.doing.view) split.2) (inv.edits ∙ ap (λ m. m.0.doing.edits) split.2) (inv.steps ∙ ap (λ m. m.0.steps) split.2)
    (c.args.editor.knows_all.log c.requires.editor)
    (omega (arith, c.args.editor.has_own.places c.in-Some.own c.in-Some.is, c.args.self.sized, ap (λ z. z.words) c.requires.table.same_table))
    (ap (λ m. m.0.doing.view.log) split.4)
    _
    (ap (λ l. map past_of l ++ c.loop-other.all.me.0.doing.gathered) (sym none) ∙ inv.pasts)

pub returns-clause-prefixes : goal.returns-clause-prefixes
returns-clause-prefixes g c =
    prefixes_closed g.S.Subject.places g.S.Subject.worth g.S.Subject.touches c.args.self c.args.editor c.args.others.items _ (returns-clause-closed g c)

pub returns-clause-legal : goal.returns-clause-legal
returns-clause-legal g c =
    legal_closed g.S.Subject.places g.S.Subject.worth g.S.Subject.touches c.args.self c.args.editor c.args.others.items _ (returns-clause-closed g c)
