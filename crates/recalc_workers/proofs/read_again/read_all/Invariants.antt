use Rattle.mark_words.specs.Tokens.{IsSeatOf}
use Rattle.recalc_workers.specs.Seats.{HasOnlyRead}
use Rattle.recalc_workers.proofs.read_again.read_all.Given as goal

abbrev pub invariant-loop : goal.invariant-loop
invariant-loop g l = IsSeatOf l.marks l.seat × HasOnlyRead l.fn.seat l.seat
