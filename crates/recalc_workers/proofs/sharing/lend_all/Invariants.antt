use Rattle.mark_words.specs.Tokens.{view_of}
use Rattle.recalc_workers.specs.Settling.{IsLent}
use Rattle.recalc_workers.proofs.SharingLemmas.{GoneThrough}
use Rattle.recalc_workers.proofs.sharing.lend_all.Given as goal

abbrev pub invariant-loop-place : goal.invariant-loop-place
invariant-loop-place g l = GoneThrough l.marks (IsLent l.marks (view_of l.fn.editor)) l.fn.editor l.editor l.fn.desks l.desks l.place
