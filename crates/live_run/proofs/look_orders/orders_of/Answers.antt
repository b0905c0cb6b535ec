-- The commands are gone, the last one first.
use Rattle.std.proofs.Common.{◌≡◌, ◌∙◌, length, arith}
use Rattle.std.proofs.lemmas.Slice.Zip.{AllZip-long}
use Rattle.live_run.specs.Legal.{looks_asked}
use Rattle.live_run.specs.Runs.{IsReportFor}
use Rattle.live_run.proofs.OrderLemmas.{can_take, orders_go_on}
use Rattle.live_run.proofs.look_orders.orders_of.Goals as goal

pub order_of-order-requires : goal.order_of-order-requires
order_of-order-requires g c =
    can_take g.N.Naming.opening c.args.commands.items c.loop-command.commands.items c.pop.new.self.items
    c.in-Some.command c.loop-command.orders.items c.loop-command.reports.items
    c.in-Some.ensures.items c.loop-command.invariant.so

pub loop-command-preserved : goal.loop-command-preserved
loop-command-preserved g c =
    record {
      so = orders_go_on g.N.Naming.opening c.args.commands.items c.loop-command.commands.items c.pop.new.self.items
          c.in-Some.command c.loop-command.orders.items c.loop-command.reports.items
          c.in-Some.ensures.items c.loop-command.invariant.so c.order_of-order.result c.order_of-order.new.reports.items
          c.push.new.self.items c.order_of-order.ensures.order c.in_ok-push.ensures.items;
      room = c.order_of-order.ensures.room ∙ c.loop-command.invariant.room;
    }

pub returns-clause-room : goal.returns-clause-room
returns-clause-room g c =
    let count : length c.args.reports.items ≡ length (looks_asked c.args.commands.items) =
    AllZip-long IsReportFor (looks_asked c.args.commands.items) c.args.reports.items c.requires.reports in
    omega (arith, count, c.loop-command.invariant.room, c.args.reports.ok.0, c.args.reports.ok.1)
