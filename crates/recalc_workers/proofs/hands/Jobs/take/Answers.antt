use Rattle.std.proofs.Common.{refl}
use Rattle.recalc_workers.proofs.QueueLemmas.{takes, knows}
use Rattle.recalc_workers.proofs.HandLemmas.{has_taken}
use Rattle.recalc_workers.proofs.hands.Jobs.take.Goals as goal

pub pop_as-requires-clause-rule : goal.pop_as-requires-clause-rule
pop_as-requires-clause-rule g c = (takes _ _, knows _ _)

pub returns-clause-taken : goal.returns-clause-taken
returns-clause-taken g c = has_taken _ c.args.hand.now _ c.in_ok-entry.entry c.requires.same_sizes c.in_ok-entry.ensures.rule refl
