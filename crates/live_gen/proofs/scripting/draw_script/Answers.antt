use Rattle.std.proofs.Common.{◌≡◌, ◌<◌, All, length, ap, sym, subst, ◌∙◌, arith}
use Rattle.std.specs.Prelude.{string_bytes}
use Rattle.std.proofs.lemmas.List.{length-map}
use Rattle.edit_script.specs.declared.script.Step.{Step}
use Rattle.live_gen.specs.Draws.{DrawsValue, draws_after}
use Rattle.live_gen.specs.Generated.{drawn_before, steps_of}
use Rattle.live_gen.proofs.ScriptLemmas.{client_pushed, clients_few, next_client, no_steps}
use Rattle.live_gen.proofs.scripting.draw_script.Goals as goal

pub loop-client-init : goal.loop-client-init
loop-client-init c = record {
  steps = c.new-steps.ensures.items ∙ no_steps c.args.draws.now.number;
  drawn = ap (draws_after c.args.draws.now.number) c.requires;
}

pub loop-client-preserved : goal.loop-client-preserved
loop-client-preserved c = record {
  steps =
      client_pushed c.args.draws.now.number c.loop-client.client c.loop-client.steps.items c.draw_edits.new.steps.items c.push.new.self.items
      c.loop-client.draws c.window.result
      c.loop-client.invariant.steps c.loop-client.invariant.drawn c.in_ok-draw_edits.ensures.steps c.window.ensures c.in_ok-push.ensures.items;
  drawn =
      c.in_ok-draw_edits.ensures.drawn
      ∙ ap (λ (v : DrawsValue). draws_after v.number (drawn_before c.loop-client.client 25)) c.loop-client.invariant.drawn
      ∙ ap (draws_after c.args.draws.now.number) (next_client c.loop-client.client);
}

pub of-requires-clause-clients : goal.of-requires-clause-clients
of-requires-clause-clients c =
    let most = c.loop-client.auto.client-end in
    let past = c.loop-client-test.false in
    let all : c.loop-client.client ≡ 4 = omega arith in
    let count : length c.in_ok-names.names.items ≡ 4 = sym (length-map c.in_ok-names.names.items string_bytes) ∙ ap length c.in_ok-names.ensures in
    let steps : c.loop-client.steps.items ≡ steps_of c.args.draws.now.number 4 = c.loop-client.invariant.steps ∙ ap (steps_of c.args.draws.now.number) all in
    subst (λ n. All (λ (s : Step). s.client < n) c.loop-client.steps.items) (sym count)
    (subst (λ l. All (λ (s : Step). s.client < 4) l) (sym steps) (clients_few c.args.draws.now.number))
