-- What contracts see of a desk.
use Rattle.std.specs.Prelude.{Bool}
use Rattle.mark_core.specs.declared.subjects.Subject.{Ghosts}
use Rattle.mark_words.specs.declared.seats.Seat.{Seat}
use Rattle.recalc_workers.specs.declared.hands.Hand.{Hand}
use Rattle.recalc_workers.specs.declared.desk.Desk.{Desk}

-- its seat at the words
abbrev pub seat_of : {S E : Type 0} {G : Ghosts S E} → Desk S E G → Seat S E G
seat_of desk = desk.seat

-- its hand at the jobs
abbrev pub hand_of : {S E : Type 0} {G : Ghosts S E} → Desk S E G → Hand
hand_of desk = desk.hand

-- whether a thread that worked here wanted memory
abbrev pub wants_memory : {S E : Type 0} {G : Ghosts S E} → Desk S E G → Bool
wants_memory desk = desk.wants_memory
