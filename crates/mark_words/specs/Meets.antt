-- What a meet gives.
use Rattle.std.specs.Prelude.{◌≡◌, ◌≤◌, ◌⊎◌, ℕ, List, [], ◌∷◌, ◌++◌, true, length}
use Rattle.mark_core.specs.Marks.{IsPrefix}
use Rattle.mark_core.specs.Knows.{KnowsClean}
use Rattle.mark_words.specs.declared.tables.Doing.{Doing}

-- The seat knows the longer of both logs, and both are prefixes of it; it knows the places that both knew; it has
-- seen the count of commits, which is at least what both had seen. Its own reads and work stay. The editor's log
-- and the count that it has seen stay as they were.
pub record HasMet {S E : Type 0} (seat other after : Doing S E) : Type 0 where
  pub own_log : IsPrefix seat.view.log after.view.log
  pub other_log : IsPrefix other.view.log after.view.log
  pub one_log : (after.view.log ≡ seat.view.log) ⊎ (after.view.log ≡ other.view.log)
  pub own_seen : seat.view.seen ≤ after.view.seen
  pub other_seen : other.view.seen ≤ after.view.seen
  pub known_seen : length after.view.log ≤ after.view.seen
  pub sees : after.view.sees ≡ seat.view.sees ++ after.view.seen ∷ []
  pub known : after.view.known ≡ seat.view.known ++ other.view.known
  pub half : after.view.half ≡ seat.view.half
  pub reads : after.view.reads ≡ seat.view.reads
  pub holds : after.view.holds ≡ seat.view.holds
  pub done : after.view.done ≡ seat.view.done
  pub lost : after.view.lost ≡ seat.view.lost
  pub subject : after.subject ≡ seat.subject
  pub editor : after.editor ≡ seat.editor
  pub edits : after.edits ≡ seat.edits
  pub marks : after.marks ≡ seat.marks
  pub log_stays : seat.editor ≡ true → after.view.log ≡ seat.view.log
  pub seen_stays : seat.editor ≡ true → after.view.seen ≡ seat.view.seen

-- Whatever place either seat knew as clean, over whatever log, the seat knows as clean after the meet.
abbrev pub KeepsClean : {S E : Type 0} → (List E → E → ℕ → Type 0) → Doing S E → Doing S E → Doing S E → Type 0
KeepsClean {S} {E} touches seat other after =
    (log : List E) (place mark : ℕ) → KnowsClean touches log seat.view place mark ⊎ KnowsClean touches log other.view place mark
    → KnowsClean touches log after.view place mark
