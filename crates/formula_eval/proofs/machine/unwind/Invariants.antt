use Rattle.std.proofs.Common.{◌≡◌, vec_len}
use Rattle.std.specs.Prelude.{vec_capacity}
use Rattle.formula_eval.proofs.PendingLemmas.{Unwinds}
use Rattle.formula_eval.proofs.machine.unwind.Given as goal

abbrev pub invariant-loop-pending : goal.invariant-loop-pending
invariant-loop-pending l = Unwinds l.initial.pending.items l.pending.items l.first l.initial.value l.value
    × (vec_capacity l.pending ≡ vec_capacity l.initial.pending)

abbrev pub decreases-loop-pending : goal.decreases-loop-pending
decreases-loop-pending l = vec_len l.pending
