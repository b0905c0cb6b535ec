-- The orders are followed from the last of the list on.
use Rattle.std.proofs.Common.{◌∙◌, inl, inr, refl, subst, arith, vec_capacity}
use Rattle.mark_words.proofs.CloseLemmas.{no_items}
use Rattle.live_run.specs.Client.{IsCutAt, task_commands}
use Rattle.live_run.proofs.RunningLemmas.{cut_short, next_fits, next_room, underway_begins, underway_ends, underway_goes_on}
use Rattle.live_run.proofs.client.run_client.Goals as goal

pub loop-order-init : goal.loop-order-init
loop-order-init g c = record { so = underway_begins g.N.Naming.opening c.args.task.now c.requires; room = refl; going = c.requires.going }

pub follow-requires-clause-fits : goal.follow-requires-clause-fits
follow-requires-clause-fits g c κs within =
    next_fits g.N.Naming.opening c.args.task.now.client (task_commands c.args.task.now) c.loop-order.pass
    c.loop-order.orders.items c.pop.new.self.items c.in-Some.order c.loop-order.reports.items
    c.loop-order.number (vec_capacity c.args.task.now.reports) c.in-Some.ensures.items c.loop-order.invariant.so

pub follow-requires-clause-room : goal.follow-requires-clause-room
follow-requires-clause-room g c κs within = λ look.
    let lt = next_room g.N.Naming.opening c.args.task.now.client (task_commands c.args.task.now) c.loop-order.pass
    c.loop-order.orders.items c.pop.new.self.items c.in-Some.order c.loop-order.reports.items
    c.loop-order.number (vec_capacity c.args.task.now.reports) c.in-Some.ensures.items c.loop-order.invariant.so look in
    omega (arith, lt, c.loop-order.invariant.room, c.loop-order.reports.ok.0)

pub loop-order-preserved : goal.loop-order-preserved
loop-order-preserved g c =
    record {
      so = underway_goes_on g.N.Naming.opening c.args.task.now.client (task_commands c.args.task.now) c.loop-order.pass
          c.loop-order.orders.items c.pop.new.self.items c.in-Some.order c.loop-order.reports.items
          c.loop-order.number (vec_capacity c.args.task.now.reports) c.in-Some.ensures.items c.loop-order.invariant.so
          c.follow.new.pass c.follow.new.reports.items c.in-Ok.ensures.made;
      room = c.in-Ok.ensures.room ∙ c.loop-order.invariant.room;
      going = c.loop-order.invariant.going;
    }

pub returns-in-Err-Memory-clause-ended : goal.returns-in-Err-Memory-clause-ended
returns-in-Err-Memory-clause-ended g c = λ going. absurd (cc)

pub returns-in-Err-FullLog-clause-ended : goal.returns-in-Err-FullLog-clause-ended
returns-in-Err-FullLog-clause-ended g c = λ going.
    inr (
    cut_short g.N.Naming.opening c.args.task.now.client (task_commands c.args.task.now) c.loop-order.pass
    c.loop-order.orders.items c.pop.new.self.items c.in-Some.order c.loop-order.reports.items
    c.loop-order.number (vec_capacity c.args.task.now.reports) c.in-Some.ensures.items c.loop-order.invariant.so c.follow.new.pass
    (subst (IsCutAt c.in-Some.order c.loop-order.pass c.follow.new.pass) c.in-Err-FullLog.field-0-is c.in-Err-FullLog.ensures.cut)
    )

pub returns-clause-ended : goal.returns-clause-ended
returns-clause-ended g c = λ going.
    inl (
    underway_ends g.N.Naming.opening c.args.task.now.client (task_commands c.args.task.now) c.loop-order.pass
    c.loop-order.orders.items c.loop-order.reports.items
    c.loop-order.number (vec_capacity c.args.task.now.reports)
    (no_items c.loop-order.orders.items (omega (arith, c.in_default.ensures.cases.0, c.loop-order.orders.ok.0)))
    c.loop-order.invariant.so
    )
