use Rattle.std.proofs.Common.{◌<◌, All, ◌∷◌, [], length, ap, sym, subst, arith, ◌∙◌, length-append}
use Rattle.std.proofs.lemmas.List.Elements.{All-cons}
use Rattle.live_run.specs.Tasks.{HadMemory}
use Rattle.live_run.specs.declared.client.Client.{Client}
use Rattle.live_run.proofs.TaskLemmas.{first_is, made_more}
use Rattle.live_run.proofs.ended.Ended.take_apart.Goals as goal

pub loop-preserved : goal.loop-preserved
loop-preserved g c =
    let l = c.loop in
    let x = c.remove-pass.result in
    let next = c.remove-pass.new.self.items in
    let count = l.invariant.count in
    let some : 0 < length l.tasks.items = omega (arith, count, c.loop-test.true, c.len-end.ensures, c.args.tasks.ok.0) in
    let is = first_is l.tasks.items next x some c.remove-pass.ensures.value c.remove-pass.ensures.by_index.2 in
    let shorter = ap length is in
    let room = l.invariant.room in
    let space = l.invariant.space in
    let passes = ap length c.push_reserved.ensures.items ∙ length-append l.passes.items (x.pass ∷ []) in
    let reports = ap length c.push_reserved-in-loop.ensures.items ∙ length-append l.reports.items (x.reports ∷ []) in
    record {
      count = omega (arith, shorter, count);
      passes = made_more (λ (task : Client _ _). task.pass) c.args.tasks.items l.tasks.items next l.passes.items
          c.push_reserved.new.self.items x l.invariant.passes is c.push_reserved.ensures.items;
      reports =
          made_more (λ (task : Client _ _). task.reports) c.args.tasks.items l.tasks.items next l.reports.items
          c.push_reserved-in-loop.new.self.items x l.invariant.reports is c.push_reserved-in-loop.ensures.items;
      had = λ rest. l.invariant.had (subst (All HadMemory) (sym is) (All-cons HadMemory x next c.if-failed.false rest));
      room = omega (arith, shorter, passes, room, c.push_reserved.ensures.capacity);
      space = omega (arith, shorter, reports, space, c.push_reserved-in-loop.ensures.capacity);
    }
