-- Word and mark don't belong to fewer entries.
use Rattle.std.proofs.Common.{◌≡◌, ◌<◌, ℕ, take}
use Rattle.mark_core.specs.Marks.{IsLastMark}
use Rattle.mark_core.proofs.judging.knows_marked.Given as goal

abbrev pub invariant-loop-count : goal.invariant-loop-count
invariant-loop-count g l =
    (count : ℕ) → count < l.count
    → (g.S.Subject.worth l.subject (take count l.log) l.place ≡ l.word)
    × IsLastMark (g.S.Subject.touches l.subject) (take count l.log) l.place l.mark
    → ⊥
