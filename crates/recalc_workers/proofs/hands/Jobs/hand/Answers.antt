use Rattle.recalc_workers.proofs.QueueLemmas.{forks}
use Rattle.recalc_workers.proofs.hands.Jobs.hand.Goals as goal

pub another-pass-requires-clause-rule : goal.another-pass-requires-clause-rule
another-pass-requires-clause-rule c = forks _ _
