-- The seat stays one of the table, and knows no entry.
use Rattle.mark_trial.specs.Threads.{IsBlank}
use Rattle.mark_trial.proofs.words.sees_until.Given as goal

abbrev pub invariant-loop : goal.invariant-loop
invariant-loop l = IsBlank l.marks l.seat
