use Rattle.std.proofs.Common.{◌≡◌, ◌≤◌, ◌+◌, length, vec_capacity, All}
use Rattle.live_run.proofs.TaskLemmas.{MadeSo}
use Rattle.live_run.specs.Tasks.{HadMemory}
use Rattle.live_run.proofs.ended.Ended.take_apart.Given as goal

abbrev pub invariant-loop : goal.invariant-loop
invariant-loop g l =
    record {
      count : length l.tasks.items + l.counter ≡ length l.fn.tasks.items;
      passes : MadeSo (λ task. task.pass) l.fn.tasks.items l.tasks.items l.passes.items;
      reports : MadeSo (λ task. task.reports) l.fn.tasks.items l.tasks.items l.reports.items;
      had : All HadMemory l.tasks.items → All HadMemory l.fn.tasks.items;
      room : length l.tasks.items + length l.passes.items ≤ vec_capacity l.passes;
      space : length l.tasks.items + length l.reports.items ≤ vec_capacity l.reports;
    }
