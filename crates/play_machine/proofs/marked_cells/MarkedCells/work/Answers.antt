use Rattle.std.proofs.Common.{◌≡◌, ◌+◌, arith, refl, sym, subst, ◌∙◌}
use Rattle.std.specs.Prelude.{IfSome}
use Rattle.std.proofs.lemmas.Option.{IfSome_then}
use Rattle.play_machine.specs.Machine.{AreTurns}
use Rattle.play_machine.specs.Machine.AreTurns.{none as no_turns, more as more_turns}
use Rattle.play_machine.specs.Marking.{OnlyThese}
use Rattle.play_machine.specs.Waiting.{IsQueue}
use Rattle.play_machine.specs.Waiting.Unplaced.{nothing}
use Rattle.play_machine.proofs.CountLemmas.{turns_counted}
use Rattle.play_machine.proofs.TouchedLemmas.{turns_only}
use Rattle.play_machine.proofs.TurnLemmas.{turn_length, turns_clear}
use Rattle.play_machine.proofs.marked_cells.MarkedCells.work.Goals as goal

pub returns-then-turns-self-clause-turns : goal.returns-then-turns-self-clause-turns
returns-then-turns-self-clause-turns c =
    subst (AreTurns c.args.sheet.now c.args.turns c.args.self.now.marks.items) (sym c.clear.ensures.marks)
    (turns_clear c.args.sheet.now c.args.turns c.args.self.now.marks.items c.requires.kept.count (rw c.requires.kept.left at c.if-turns-self.true))

pub loop-init : goal.loop-init
loop-init c = (
  no_turns c.args.self.now.marks.items,
  refl,
  subst (λ ms. IsQueue c.args.sheet.now ms nothing c.in_ok-queue.queue) c.deref.ensures.value c.in_ok-queue.ensures,
  refl,
  refl,
)

pub loop-preserved : goal.loop-preserved
loop-preserved c =
    let before = c.loop.invariant in
    let turn = c.in_ok-turn.ensures.turn in (
      more_turns c.loop.counter (c.loop.counter + 1) c.args.self.now.marks.items c.loop.self.marks.items c.turn.new.marks.items before.0 turn (omega arith),
      turn_length c.args.sheet.now c.loop.self.marks.items c.turn.new.marks.items turn ∙ before.1,
      c.in_ok-turn.ensures.queue,
      before.3,
      before.4,
    )

pub returns-clause-kept : goal.returns-clause-kept
returns-clause-kept c =
    let before = c.loop.invariant in
    let kept = c.requires.kept in
    let fewer = c.if-turns-self.false in
    let left = kept.left in
    let same = before.3 in
    let done = c.loop-test.false in
    let most = c.loop.auto.counter-end in
    let all : c.loop.counter ≡ c.args.turns = omega (arith, done, most) in
    let counted = turns_counted c.args.sheet.now c.loop.counter c.args.self.now.marks.items c.loop.self.marks.items
    kept.count (omega (arith, fewer, left, all)) before.0 in
    record {
      count = before.1 ∙ kept.count;
      left = omega (arith, counted, left, same, all);
      touched = subst (λ touched. IfSome touched (λ list. OnlyThese c.args.sheet.now.sizes c.loop.self.marks.items list.items)) (sym before.4)
          (IfSome_then c.args.self.now.touched kept.touched
          (λ list. turns_only c.args.sheet.now list.items c.loop.counter c.args.self.now.marks.items c.loop.self.marks.items kept.count before.0));
      queue = before.2;
    }
