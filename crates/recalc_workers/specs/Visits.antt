-- What visits of cells leave at a desk.
use Rattle.std.specs.Prelude.{◌≡◌, ◌⊎◌, ℕ, List, Contains}
use Rattle.mark_core.specs.declared.words.Known.{Known}
use Rattle.mark_core.specs.declared.subjects.Subject.{Ghosts}
use Rattle.mark_words.specs.declared.seats.Seat.{Seat}
use Rattle.mark_words.specs.Tokens.{view_of}
use Rattle.recalc_workers.specs.declared.desk.Desk.{Desk}
use Rattle.recalc_workers.specs.Desks.{seat_of, hand_of}
use Rattle.recalc_workers.specs.Seats.{HasOnlyRead}
use Rattle.recalc_workers.specs.Settling.{KnowsPlace}

-- the desk's seat has read cells and done nothing else, and its hand is as it was
pub record HasVisited {S E : Type 0} {G : Ghosts S E} (old new : Desk S E G) : Type 0 where
  pub seat : HasOnlyRead (seat_of old) (seat_of new)
  pub hand : hand_of new ≡ hand_of old

-- the seat knows each place that it has finished since as clean
abbrev pub KnowsFinished : {S E : Type 0} {G : Ghosts S E} → (List E → E → ℕ → Type 0) → Seat S E G → Seat S E G → Type 0
KnowsFinished touches old new =
    (pair : Known) → Contains (view_of new).done pair → Contains (view_of old).done pair ⊎ KnowsPlace touches (view_of new) pair.place
