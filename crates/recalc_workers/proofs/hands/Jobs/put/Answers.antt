use Rattle.std.proofs.Common.{refl, sym, subst}
use Rattle.recalc_workers.specs.Rule.{FitsSheet}
use Rattle.recalc_workers.proofs.QueueLemmas.{puts, knows}
use Rattle.recalc_workers.proofs.HandLemmas.{has_found_full}
use Rattle.recalc_workers.proofs.hands.Jobs.put.Goals as goal

pub push_as-requires-clause-rule : goal.push_as-requires-clause-rule
push_as-requires-clause-rule g c =
    (puts _ _ _ _ c.args.self.now.room (subst (λ s. FitsSheet s c.args.job) (sym c.requires.hand.same_sizes) c.requires.fits), knows _ _)

pub returns-in-Err-clause-full : goal.returns-in-Err-clause-full
returns-in-Err-clause-full g c = λ _.
    has_found_full _ c.args.hand.now _ _ c.requires.hand.same_sizes c.args.self.now.room c.in-Err.ensures.rule.1 refl c.in-Err.ensures.rule.2
