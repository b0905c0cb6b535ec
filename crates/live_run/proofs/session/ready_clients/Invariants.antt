use Rattle.std.proofs.Common.{◌≡◌, length, drop}
use Rattle.live_run.proofs.TaskLemmas.{EachAt}
use Rattle.live_run.specs.Client.{IsReady}
use Rattle.live_run.proofs.session.ready_clients.Given as goal

abbrev pub invariant-loop-client : goal.invariant-loop-client
invariant-loop-client g l =
    record {
      count : length l.tasks.items ≡ l.client;
      passes : l.passes.items ≡ drop l.client l.fn.passes.items;
      parts : l.parts.items ≡ drop l.client l.fn.parts.items;
      each : EachAt (λ client part task. IsReady g.N.Naming.opening client part.commands.items task) l.fn.parts.items l.tasks.items;
    }
