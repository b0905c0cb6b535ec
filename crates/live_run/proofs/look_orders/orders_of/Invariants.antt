use Rattle.std.proofs.Common.{◌≡◌, vec_len, vec_capacity}
use Rattle.live_run.proofs.OrderLemmas.{OrdersSoFar}
use Rattle.live_run.proofs.look_orders.orders_of.Given as goal

abbrev pub invariant-loop-command : goal.invariant-loop-command
invariant-loop-command g l =
    record {
      so : OrdersSoFar g.N.Naming.opening l.fn.commands.items l.commands.items l.orders.items l.reports.items;
      room : vec_capacity l.reports ≡ vec_capacity l.fn.reports;
    }

abbrev pub decreases-loop-command : goal.decreases-loop-command
decreases-loop-command g l = vec_len l.commands
