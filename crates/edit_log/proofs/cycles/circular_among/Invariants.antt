use Rattle.edit_log.proofs.CycleLemmas.{HoldsCircularBefore}
use Rattle.edit_log.proofs.cycles.circular_among.Given as goal

abbrev pub invariant-loop-place : goal.invariant-loop-place
invariant-loop-place l = HoldsCircularBefore l.sheet l.place l.set
