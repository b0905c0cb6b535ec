use Rattle.std.proofs.Common.{refl}
use Rattle.recalc_workers.proofs.HandLemmas.{has_refused}
use Rattle.recalc_workers.proofs.hands.Jobs.offer.Goals as goal

pub returns-else-put-clause-refused : goal.returns-else-put-clause-refused
returns-else-put-clause-refused g c =
    (refl, has_refused _ c.args.hand.now c.put.new.hand _ c.args.job (c.put.ensures.full c.if-put.false) refl refl c.note.ensures.noted)
