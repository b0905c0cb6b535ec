use Rattle.std.proofs.Common.{◌≡◌, ◌+◌, ◌++◌, ap, subst, ◌∙◌, arith}
use Rattle.live_gen.specs.Draws.{DrawsValue, draws_after}
use Rattle.live_gen.specs.Generated.{drawn_before, edit_steps}
use Rattle.live_gen.proofs.ScriptLemmas.{edit_pushed, next_edit, none_added}
use Rattle.live_gen.proofs.scripting.draw_edits.Goals as goal

pub loop-init : goal.loop-init
loop-init c = record {
  steps = none_added c.args.draws.now.number c.args.client c.args.steps.now.items;
  drawn = ap (draws_after c.args.draws.now.number) c.requires.here;
}

pub draw_edit-requires-clause-few : goal.draw_edit-requires-clause-few
draw_edit-requires-clause-few c =
    let here = ap (λ (v : DrawsValue). v.made) c.loop.invariant.drawn in
    let few = c.requires.client in
    let below = c.loop-test.true in
    omega arith

pub loop-preserved : goal.loop-preserved
loop-preserved c = record {
  steps =
      edit_pushed c.args.draws.now.number c.args.client c.loop.counter c.args.steps.now.items c.loop.steps.items c.push.new.self.items c.loop.draws
      c.in_ok-edit.edit
      c.loop.invariant.steps c.loop.invariant.drawn c.in_ok-edit.ensures.edit c.in_ok-push.ensures.items;
  drawn =
      c.draw_edit.ensures.two
      ∙ ap (λ (v : DrawsValue). draws_after v.number (v.made + 2)) c.loop.invariant.drawn
      ∙ next_edit c.args.draws.now.number c.args.client c.loop.counter;
}

pub returns-clause-steps : goal.returns-clause-steps
returns-clause-steps c =
    let most = c.loop.auto.counter-end in
    let past = c.loop-test.false in
    let all : c.loop.counter ≡ 25 = omega arith in
    subst (λ n. c.loop.steps.items ≡ c.args.steps.now.items ++ edit_steps c.args.draws.now.number c.args.client n) all c.loop.invariant.steps

pub returns-clause-drawn : goal.returns-clause-drawn
returns-clause-drawn c =
    let most = c.loop.auto.counter-end in
    let past = c.loop-test.false in
    let all : c.loop.counter ≡ 25 = omega arith in
    subst (λ n. c.loop.draws ≡ draws_after c.args.draws.now.number (drawn_before c.args.client n)) all c.loop.invariant.drawn
