use Rattle.recalc_workers.proofs.SharingLemmas.{GatheredSo}
use Rattle.recalc_workers.proofs.sharing.gather_all.Given as goal

abbrev pub invariant-loop-place : goal.invariant-loop-place
invariant-loop-place g l = GatheredSo l.marks l.fn.editor l.editor l.fn.desks l.desks l.place l.wants
