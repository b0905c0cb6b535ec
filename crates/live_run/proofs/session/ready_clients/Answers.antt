use Rattle.std.proofs.Common.{◌<◌, ◌∷◌, [], length, ap, subst, arith, ◌∙◌, length-append}
use Rattle.std.proofs.lemmas.Option.{get_or_from_slice_get}
use Rattle.live_run.specs.Client.{IsReady}
use Rattle.live_run.specs.Parts.{IsPartFor}
use Rattle.live_run.specs.declared.client.Client.{Client}
use Rattle.live_run.specs.declared.part.Part.{Part}
use Rattle.live_run.proofs.TaskLemmas.{each_push, first_left}
use Rattle.live_run.proofs.session.ready_clients.Goals as goal

pub ready_client-requires-clause-new : goal.ready_client-requires-clause-new
ready_client-requires-clause-new g c =
    let l = c.loop-client in
    let within : l.client < length c.args.passes.items = omega (arith, c.loop-client-test.true, c.len-count.ensures, c.args.passes.ok.0) in
    let first = first_left c.args.passes.items l.passes.items c.remove-pass.new.self.items l.client c.remove-pass.result
    l.invariant.passes within c.remove-pass.ensures.value c.remove-pass.ensures.by_index.2 in
    c.requires.passes.each l.client c.remove-pass.result first.0

pub ready_client-requires-clause-commands : goal.ready_client-requires-clause-commands
ready_client-requires-clause-commands g c =
    let l = c.loop-client in
    let x = c.remove-commands.result in
    let passes = c.requires.passes.count in
    let within : l.client < length c.args.parts.items = omega (
      arith,
      c.loop-client-test.true,
      c.len-count.ensures,
      c.args.passes.ok.0,
      passes,
      c.requires.count,
    ) in
    let first = first_left c.args.parts.items l.parts.items c.remove-commands.new.self.items l.client x
    l.invariant.parts within c.remove-commands.ensures.value c.remove-commands.ensures.by_index.2 in
    (subst (IsPartFor g.N.Naming.opening) (get_or_from_slice_get c.args.parts.items l.client x x first.0) (c.requires.parts l.client x within)).commands

pub loop-client-preserved : goal.loop-client-preserved
loop-client-preserved g c =
    let l = c.loop-client in
    let x = c.remove-commands.result in
    let passes = c.requires.passes.count in
    let within : l.client < length c.args.passes.items = omega (arith, c.loop-client-test.true, c.len-count.ensures, c.args.passes.ok.0) in
    let inside : l.client < length c.args.parts.items = omega (
      arith,
      c.loop-client-test.true,
      c.len-count.ensures,
      c.args.passes.ok.0,
      passes,
      c.requires.count,
    ) in
    let first = first_left c.args.passes.items l.passes.items c.remove-pass.new.self.items l.client c.remove-pass.result
    l.invariant.passes within c.remove-pass.ensures.value c.remove-pass.ensures.by_index.2 in
    let part = first_left c.args.parts.items l.parts.items c.remove-commands.new.self.items l.client x l.invariant.parts
    inside c.remove-commands.ensures.value c.remove-commands.ensures.by_index.2 in
    let count = l.invariant.count in
    let long = ap length c.in_ok-push.ensures.items ∙ length-append l.tasks.items (c.in_ok-ready_client.field-0 ∷ []) in
    record {
      count = omega (arith, long, count);
      passes = first.1;
      parts = part.1;
      each =
          each_push (λ client (part : Part) (task : Client _ _). IsReady g.N.Naming.opening client part.commands.items
          task) c.args.parts.items l.tasks.items c.push.new.self.items l.client x c.in_ok-ready_client.field-0
          l.invariant.each count part.0 c.in_ok-ready_client.ensures c.in_ok-push.ensures.items;
    }
