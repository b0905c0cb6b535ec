use Rattle.std.proofs.Common.{rules, refl, ap, ◌∙◌}
use Rattle.recalc_workers.specs.declared.rules.Queued.{Queued}
use Rattle.recalc_workers.specs.Rule.{with_put}
use Rattle.recalc_workers.proofs.QueueLemmas.{begins, puts, first_fits, learns}
use Rattle.recalc_workers.proofs.hands.Jobs.new.Goals as goal

pub ruled-requires-clause-rule : goal.ruled-requires-clause-rule
ruled-requires-clause-rule c = begins

pub try_push_as-requires-clause-rule : goal.try_push_as-requires-clause-rule
try_push_as-requires-clause-rule c =
    let first : Queued = record { job = record { cell = c.unwrap-cell.result; tries = 0 }; sizes = record { rows = c.args.rows; cols = c.args.cols } } in
    puts _ _ _ first c.in_ok-queue.ensures.0 (first_fits _ first c.in_ok-queue.ensures.3 (search rules) (search rules) refl)

pub try_pop_as-requires-clause-rule : goal.try_pop_as-requires-clause-rule
try_pop_as-requires-clause-rule c =
    let first : Queued = record { job = record { cell = c.unwrap-cell.result; tries = 0 }; sizes = record { rows = c.args.rows; cols = c.args.cols } } in
    learns _ _ first (c.in-Ok.ensures.rule.0 ∙ ap (λ v. with_put v first) c.in_ok-queue.ensures.3)
