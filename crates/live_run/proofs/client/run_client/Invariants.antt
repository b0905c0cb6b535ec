use Rattle.std.proofs.Common.{◌≡◌, false, vec_len, vec_capacity}
use Rattle.live_run.specs.Client.{task_commands}
use Rattle.live_run.proofs.RunningLemmas.{IsUnderway}
use Rattle.live_run.proofs.client.run_client.Given as goal

abbrev pub invariant-loop-order : goal.invariant-loop-order
invariant-loop-order g l =
    record {
      so : IsUnderway g.N.Naming.opening l.fn.task.client (task_commands l.fn.task) l.pass l.orders.items
          l.reports.items l.number (vec_capacity l.fn.task.reports);
      room : vec_capacity l.reports ≡ vec_capacity l.fn.task.reports;
      going : l.failed ≡ false;
    }

abbrev pub decreases-loop-order : goal.decreases-loop-order
decreases-loop-order g l = vec_len l.orders
