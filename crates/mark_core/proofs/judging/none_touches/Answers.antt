-- The loop has gone past each entry.
use Rattle.std.proofs.Common.{refl, arith}
use Rattle.mark_core.proofs.judging.none_touches.Goals as goal

pub returns : goal.returns
returns g c = (λ t index from within touched. c.loop-index.invariant index from (omega arith) touched, λ none. refl)
