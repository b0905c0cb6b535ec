-- What contracts see of a table of words, of a seat, and of the words of a closed table.
use Rattle.std.specs.Prelude.{◌≡◌, ℕ, List, Bool, Option, Some}
use Rattle.std.specs.Mem.Slots.{slots_items}
pub use Rattle.atomic_table.specs.Seated.{TableId}
use Rattle.mark_core.specs.declared.actors.Edits.{Edits}
use Rattle.mark_core.specs.declared.actors.View.{View}
use Rattle.mark_core.specs.declared.words.Half.{Half}
use Rattle.mark_core.specs.declared.words.Place.{Place}
use Rattle.mark_core.specs.declared.subjects.Subject.{Ghosts}
use Rattle.mark_words.specs.declared.tables.Doing.{Doing}
use Rattle.mark_words.specs.declared.tables.OwnStep.{OwnStep}
use Rattle.mark_words.specs.declared.tables.Topic.{Topic}
use Rattle.mark_words.specs.declared.marks.Marks.{Marks}
use Rattle.mark_words.specs.declared.seats.Seat.{Seat}
use Rattle.mark_words.specs.declared.closing.Words.{Words}
use Rattle.mark_words.specs.Words.{shown_place}
use Rattle.mark_words.specs.Rules.{place_count}

-- which table it is
abbrev pub table_of : {S E : Type 0} → Marks S E → TableId
table_of marks = marks.table.shared.table_id

-- what the table is about
abbrev pub topic_of : {S E : Type 0} → Marks S E → Topic S
topic_of marks = marks.table.shared.key

abbrev pub subject_of : {S E : Type 0} → Marks S E → S
subject_of marks = (topic_of marks).subject.value

-- how many places the table has
abbrev pub places_of : {S E : Type 0} → Marks S E → ℕ
places_of marks = place_count (topic_of marks)

-- the table of which a seat is one
abbrev pub seat_table : {S E : Type 0} {G : Ghosts S E} → Seat S E G → TableId
seat_table seat = seat.seat.table_id

-- what a seat knows and has done
abbrev pub doing_of : {S E : Type 0} {G : Ghosts S E} → Seat S E G → Doing S E
doing_of seat = seat.seat.me.0.doing

-- its single steps, in order
abbrev pub own_steps : {S E : Type 0} {G : Ghosts S E} → Seat S E G → List (OwnStep E)
own_steps seat = seat.seat.me.0.steps

-- the seat is one of the table, and names what it is about, which has the table's places
pub record IsSeatOf {S E : Type 0} {G : Ghosts S E} (marks : Marks S E) (seat : Seat S E G) : Type 0 where
  pub same_table : seat_table seat ≡ table_of marks
  pub same_subject : (doing_of seat).subject ≡ Some (subject_of marks)
  pub same_places : places_of marks ≡ G.places (subject_of marks)

-- its view, as the core has views
abbrev pub view_of : {S E : Type 0} {G : Ghosts S E} → Seat S E G → View (List E)
view_of seat = (doing_of seat).view

-- the entries that it knows
abbrev pub log_of : {S E : Type 0} {G : Ghosts S E} → Seat S E G → List E
log_of seat = (view_of seat).log

-- the greatest count of commits that it has seen
abbrev pub seen_of : {S E : Type 0} {G : Ghosts S E} → Seat S E G → ℕ
seen_of seat = (view_of seat).seen

-- its begun read
abbrev pub half_of : {S E : Type 0} {G : Ghosts S E} → Seat S E G → Option Half
half_of seat = (view_of seat).half

-- whether it is the editor's
abbrev pub is_editor : {S E : Type 0} {G : Ghosts S E} → Seat S E G → Bool
is_editor seat = (doing_of seat).editor

-- the log, the pending entry and the places marked for it, as the editor's seat knows them
abbrev pub edits_of : {S E : Type 0} {G : Ghosts S E} → Seat S E G → Edits E
edits_of seat = (doing_of seat).edits

-- how many places the words of a closed table have, and one of the places
abbrev pub closed_places : {S E : Type 0} {G : Ghosts S E} → Words S E G → ℕ
closed_places words = words.places

abbrev pub closed_place : {S E : Type 0} {G : Ghosts S E} → Words S E G → ℕ → Place
closed_place words place = shown_place (slots_items words.closed.words) place

-- the editor's log as it was when the table was closed
abbrev pub closed_log : {S E : Type 0} {G : Ghosts S E} → Words S E G → List E
closed_log words = words.witness.me.0.doing.view.log
