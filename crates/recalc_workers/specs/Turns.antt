-- When each answer of a turn comes, by what the seat of its desk noted from one moment to another.
use Rattle.std.specs.Prelude.{◌≡◌, ◌≢◌, ◌<◌, ◌≤◌, ◌+◌, ◌⊎◌, ℕ, List, [], ◌∷◌, ◌++◌, true, false, length, take, Contains}
use Rattle.sheet_refs.specs.Cells.{Position}
use Rattle.sheet_refs.specs.Sizes.{place_of}
use Rattle.mark_core.specs.declared.words.Clean.{Clean}
use Rattle.mark_core.specs.declared.words.Finished.{Finished}
use Rattle.mark_core.specs.declared.subjects.Subject.{Ghosts}
use Rattle.mark_core.specs.Marks.{IsPrefix}
use Rattle.mark_words.specs.declared.seats.Seat.{Seat}
use Rattle.mark_words.specs.declared.tables.OwnStep.{OwnStep}
use Rattle.mark_words.specs.Tokens.{own_steps, view_of, log_of}
use Rattle.sheet_model.specs.Budget.{Leads}
use Rattle.sheet_model.specs.Logs.{after}
use Rattle.sheet_model.specs.Sheets.{SheetValue}
use Rattle.sheet_model.specs.Values.{IsInput}
use Rattle.sheet_model.specs.declared.entry.Entry.{Entry}
use Rattle.recalc_workers.specs.declared.turns.Turn.{Turn}
use Rattle.recalc_workers.specs.declared.turns.Turn.TheVariants.{Done, Idle, Nothing, Later, Stale, Busy, Memory}
use Rattle.recalc_workers.specs.declared.reading.Reading.{Reading}
use Rattle.recalc_workers.specs.Seats.{Keeps, HasDoneNothing, HoldsNothing}
use Rattle.recalc_workers.specs.Work.{ClaimsPutsFinishes}

-- it is among what was added to a list
pub record WasAdded {X : Type 0} (old new : List X) (x : X) : Type 0 where
  pub added : List X
  pub all : new ≡ old ++ added
  pub among : Contains added x

-- a read of the place was added to those that the seat has finished
pub record HasReadOf {S E : Type 0} {G : Ghosts S E} (old new : Seat S E G) (place : ℕ) : Type 0 where
  pub read : Finished
  pub added : WasAdded (view_of old).reads (view_of new).reads read
  pub place_is : read.place ≡ place

-- a count of at most this many commits was added to those that the seat saw, and it knows at least so many entries
pub record HasMetAt {S E : Type 0} {G : Ghosts S E} (old new : Seat S E G) (met : ℕ) : Type 0 where
  pub count : ℕ
  pub added : WasAdded (view_of old).sees (view_of new).sees count
  pub most : count ≤ met
  pub known : met ≤ length (log_of new)

-- Done: a read of the place, of which the clean word isn't for the mark; and one finish, for that mark, which the last
-- three steps were
pub record IsDone {S E : Type 0} {G : Ghosts S E} (old new : Seat S E G) (place : ℕ) : Type 0 where
  pub of : HasReadOf old new place
  pub stale : of.read.clean.upto ≢ of.read.mark + 1
  pub word : ℕ
  pub before : List (OwnStep E)
  pub earlier : IsPrefix (own_steps old) before
  pub steps : ClaimsPutsFinishes before (own_steps new) place of.read.clean word of.read.mark
  pub holds : (view_of new).holds ≡ (view_of old).holds
  pub done : (view_of new).done ≡ (view_of old).done ++ record { place = place; mark = of.read.mark } ∷ []
  pub lost : (view_of new).lost ≡ (view_of old).lost

-- Nothing: a read of the place, of which the clean word is for the mark
pub record IsNothing {S E : Type 0} {G : Ghosts S E} (old new : Seat S E G) (place : ℕ) : Type 0 where
  pub of : HasReadOf old new place
  pub clean : of.read.clean.upto ≡ of.read.mark + 1
  pub idle : HasDoneNothing old new

-- Later: a read of the place with this mark, which is past the entries that were met
pub record IsLater {S E : Type 0} {G : Ghosts S E} (old new : Seat S E G) (place mark met : ℕ) : Type 0 where
  pub of : HasReadOf old new place
  pub mark_is : of.read.mark ≡ mark
  pub past : met < mark
  pub bound : HasMetAt old new met
  pub idle : HasDoneNothing old new

-- a cell from which steps from cells to their inputs come back
abbrev pub IsOnCycle : SheetValue → Position → Type 0
IsOnCycle sheet cell = Leads (IsInput sheet) cell cell

-- Stale: the input is one of the cell after the entries that were met, and a read of it shows it as not computed for
-- its mark, or its mark as past these entries; and after all that the seat knows the cell isn't on a cycle
pub record IsStale {S : Type 0} {G : Ghosts S Entry} (opening : SheetValue) (old new : Seat S Entry G) (cell input : Position) (met : ℕ) : Type 0 where
  pub input_is : IsInput (after opening (take met (log_of new))) cell input
  pub of : HasReadOf old new (place_of opening.sizes input)
  pub outdated : (of.read.clean.upto ≢ of.read.mark + 1) ⊎ (met < of.read.mark)
  pub bound : HasMetAt old new met
  pub on_no_cycle : ¬ IsOnCycle (after opening (log_of new)) cell
  pub idle : HasDoneNothing old new

-- Busy where the place was read as held,
pub record IsHeld {S E : Type 0} {G : Ghosts S E} (old new : Seat S E G) (seen found : Clean) : Type 0 where
  pub held : seen.held ≡ true
  pub same : found ≡ seen
  pub idle : HasDoneNothing old new

-- or where a claim of it was refused, the only one
pub record IsRefused {S E : Type 0} {G : Ghosts S E} (old new : Seat S E G) (place : ℕ) (seen found : Clean) : Type 0 where
  pub another : found ≢ seen
  pub holds : (view_of new).holds ≡ (view_of old).holds
  pub done : (view_of new).done ≡ (view_of old).done
  pub lost : (view_of new).lost ≡ (view_of old).lost ++ record { place = place; found = found } ∷ []

pub record IsBusy {S E : Type 0} {G : Ghosts S E} (old new : Seat S E G) (place : ℕ) (seen found : Clean) : Type 0 where
  pub of : HasReadOf old new place
  pub clean : of.read.clean ≡ seen
  pub why : IsHeld old new seen found ⊎ IsRefused old new place seen found

-- since the start the seat has lost nothing and done nothing
pub record IsStillIdle {S E : Type 0} {G : Ghosts S E} (start now : Seat S E G) : Type 0 where
  pub keeps : Keeps start now
  pub idle : HasDoneNothing start now

-- a read of the place with these words was added
pub record HasReadAs {S E : Type 0} {G : Ghosts S E} (old new : Seat S E G) (place : ℕ) (reading : Reading) : Type 0 where
  pub of : HasReadOf old new place
  pub clean : of.read.clean ≡ reading.clean
  pub mark : of.read.mark ≡ reading.mark

-- the answer is about the cell
abbrev pub IsAbout : Position → Turn → Type 0
IsAbout cell (Done other) = other ≡ cell
IsAbout cell Idle = ⊥
IsAbout cell (Nothing other) = other ≡ cell
IsAbout cell (Later other mark met) = other ≡ cell
IsAbout cell (Stale other input met) = other ≡ cell
IsAbout cell (Busy other seen found) = other ≡ cell
IsAbout cell (Memory other) = other ≡ cell

-- what a read of the cell itself may answer, where the turn computes from so many entries
abbrev pub IsAnswerAt : Position → Reading → ℕ → Turn → Type 0
IsAnswerAt cell reading met (Done other) = ⊥
IsAnswerAt cell reading met Idle = ⊥
IsAnswerAt cell reading met (Nothing other) = (other ≡ cell) × (reading.clean.upto ≡ reading.mark + 1)
IsAnswerAt cell reading met (Later other mark bound) = (other ≡ cell) × (mark ≡ reading.mark) × (bound ≡ met) × (met < reading.mark)
IsAnswerAt cell reading met (Stale other input bound) = ⊥
IsAnswerAt cell reading met (Busy other seen found) = (other ≡ cell) × (seen ≡ reading.clean) × (found ≡ reading.clean) × (reading.clean.held ≡ true)
IsAnswerAt cell reading met (Memory other) = ⊥

-- the cell is to be computed: its word isn't for its mark, which is within so many entries, and it isn't held
pub record IsDue (reading : Reading) (met : ℕ) : Type 0 where
  pub stale : reading.clean.upto ≢ reading.mark + 1
  pub within : reading.mark ≤ met
  pub free : reading.clean.held ≡ false

-- when each answer comes
abbrev pub HasCause : {S : Type 0} {G : Ghosts S Entry} → SheetValue → Seat S Entry G → Seat S Entry G → Turn → Type 0
HasCause opening old new (Done cell) = IsDone old new (place_of opening.sizes cell)
HasCause opening old new Idle = HasDoneNothing old new
HasCause opening old new (Nothing cell) = IsNothing old new (place_of opening.sizes cell)
HasCause opening old new (Later cell mark met) = IsLater old new (place_of opening.sizes cell) mark met
HasCause opening old new (Stale cell input met) = IsStale opening old new cell input met
HasCause opening old new (Busy cell seen found) = IsBusy old new (place_of opening.sizes cell) seen found
HasCause opening old new (Memory cell) = HasDoneNothing old new

-- The rest of a turn about the cell: the seat loses nothing and holds nothing; and whatever is so since the start of
-- the turn, the answer has its cause since then.
pub record ComesTo {S : Type 0} {G : Ghosts S Entry} (opening : SheetValue) (old : Seat S Entry G) (cell : Position)
    (Given : Seat S Entry G → Type 0) (new : Seat S Entry G) (turn : Turn) : Type 0 where
  pub keeps : Keeps old new
  pub free : HoldsNothing new
  pub about : IsAbout cell turn
  pub cause : (start : Seat S Entry G) → IsStillIdle start old → Given start → HasCause opening start new turn
