use Rattle.mark_words.specs.Tokens.{IsSeatOf}
use Rattle.recalc_workers.specs.Settling.{HasWorked}
use Rattle.recalc_workers.proofs.clearing.clear.Given as goal

abbrev pub invariant-loop : goal.invariant-loop
invariant-loop g l = IsSeatOf l.marks l.seat × HasWorked l.fn.seat l.seat
