-- No hold so far has a word that belongs with the mark.
use Rattle.std.proofs.Common.{◌<◌, ℕ, get_or}
use Rattle.mark_core.specs.declared.words.Held.{Held}
use Rattle.mark_core.specs.Permissions.{IsMarkedHold}
use Rattle.mark_core.proofs.judging.any_marked.Given as goal

abbrev pub invariant-loop-hold : goal.invariant-loop-hold
invariant-loop-hold g l =
    (k : ℕ) (d : Held) → k < l.hold-index
    → IsMarkedHold (g.S.Subject.worth l.subject) (g.S.Subject.touches l.subject) l.log l.place l.mark (get_or l.holds k d) → ⊥
