use Rattle.std.proofs.Common.{◌≡◌, ◌+◌, arith, ap, sym, subst, ◌∙◌}
use Rattle.std.proofs.lemmas.List.{take_all}
use Rattle.edit_script.specs.declared.script.Step.{Step}
use Rattle.play_machine.specs.Machine.{Plays, opening}
use Rattle.play_machine.specs.Playing.{IsCommandOfSheet, is_put, machine_of}
use Rattle.play_machine.proofs.PlayLemmas.{count_more, count_taken, fit_moves, follows_keeps, one_of, opened, plays_full, plays_more, plays_none}
use Rattle.play_machine.proofs.steps.play.Goals as goal

pub loop-step-init : goal.loop-step-init
loop-step-init g c =
    let told = c.in_ok-player.ensures in
    let begun = opened (machine_of c.in_ok-player.player.book c.in_ok-player.player.cells.marks.items) c.args.book.sheet told.machine in
    (plays_none _ c.args.book.sheet _ told.machine c.new-reports.ensures.items, told.kept, told.values, begun.0, begun.1, begun.2)

pub follow-requires-clause-fit : goal.follow-requires-clause-fit
follow-requires-clause-fit g c =
    fit_moves c.args.book.sheet c.loop-step.player.book.sheet c.step-item.result.command c.loop-step.invariant.3 c.loop-step.invariant.4
    (subst (λ (s : Step). IsCommandOfSheet c.args.book.sheet s.command) (sym c.step-item.is)
    (c.requires.fit.each c.loop-step.step-index c.step-item.result c.loop-step-test.true))

pub follow-requires-clause-few : goal.follow-requires-clause-few
follow-requires-clause-few g c = λ is.
    let counted = c.loop-step.invariant.5 in
    let more = count_more (λ (s : Step). is_put s.command) c.args.steps.now c.loop-step.step-index c.step-item.result c.loop-step-test.true c.step-item.is in
    let one : one_of (is_put c.step-item.result.command) ≡ 1 = ap one_of is in
    let most = count_taken (λ (s : Step). is_put s.command) c.args.steps.now (c.loop-step.step-index + 1) in
    let few = c.requires.fit.few in
    omega (arith, counted, more, one, most, few)

pub loop-step-preserved : goal.loop-step-preserved
loop-step-preserved g c =
    let told = c.in_ok-follow.ensures in
    let keeps = follows_keeps _ _ _ _ _ told.follows.follows in
    let more = count_more (λ (s : Step). is_put s.command) c.args.steps.now c.loop-step.step-index c.step-item.result c.loop-step-test.true c.step-item.is in (
      plays_more (opening c.args.book.sheet) _ _ c.args.steps.now c.loop-step.step-index c.step-item.result _ _
          c.loop-step.invariant.0 told.follows c.loop-step-test.true c.step-item.is,
      told.kept,
      told.values,
      keeps.sizes ∙ c.loop-step.invariant.3,
      keeps.labels ∙ c.loop-step.invariant.4,
      keeps.number ∙ ap (λ n. n + one_of (is_put c.step-item.result.command)) c.loop-step.invariant.5 ∙ sym more,
    )

pub returns-clause-reports : goal.returns-clause-reports
returns-clause-reports g c = (
  machine_of c.loop-step.player.book c.loop-step.player.cells.marks.items,
  subst (λ s. Plays (opening c.args.book.sheet) s
      (machine_of c.loop-step.player.book c.loop-step.player.cells.marks.items) c.loop-step.reports.items)
      (take_all c.loop-step.step-index c.args.steps.now c.loop-step-test.false) c.loop-step.invariant.0,
)

pub returns-clause-full : goal.returns-clause-full
returns-clause-full g c = plays_full _ _ _ _ c.loop-step.invariant.0
