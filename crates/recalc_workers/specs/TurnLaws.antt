-- What the causes of a turn's answers come to, in lists and numbers.
use Rattle.std.specs.Prelude.{◌≡◌, ◌≢◌, ◌<◌, ◌≤◌, ◌+◌, ◌⊎◌, ℕ, List, [], ◌∷◌, ◌++◌, Some, true, length, take, slice_get}
use Rattle.sheet_refs.specs.Cells.{Position}
use Rattle.sheet_refs.specs.Sizes.{place_of}
use Rattle.sheet_refs.specs.declared.sizes.Sizes.{Sizes}
use Rattle.mark_core.specs.declared.words.Clean.{Clean}
use Rattle.mark_core.specs.declared.words.Finished.{Finished}
use Rattle.mark_core.specs.declared.events.Event.TheVariants.{Claim, Put, Finish}
use Rattle.mark_core.specs.declared.subjects.Subject.{Ghosts}
use Rattle.mark_words.specs.declared.seats.Seat.{Seat}
use Rattle.mark_words.specs.declared.tables.OwnStep.{OwnStep}
use Rattle.mark_words.specs.Tokens.{own_steps, view_of, log_of}
use Rattle.mark_words.specs.Words.{word_of_clean}
use Rattle.sheet_model.specs.Budget.{Leads}
use Rattle.sheet_model.specs.Logs.{after}
use Rattle.sheet_model.specs.Sheets.{SheetValue}
use Rattle.sheet_model.specs.Values.{IsInput}
use Rattle.sheet_model.specs.declared.entry.Entry.{Entry}
use Rattle.recalc_workers.specs.declared.hands.Hand.{Hand}
use Rattle.recalc_workers.specs.declared.turns.Turn.{Turn}
use Rattle.recalc_workers.specs.declared.turns.Turn.TheVariants.{Done, Idle, Nothing, Later, Stale, Busy, Memory}
use Rattle.recalc_workers.specs.Hands.{put_of, refused_of, taken_of}
use Rattle.recalc_workers.specs.Turns.{HasCause}
use Rattle.recalc_workers.specs.Again.{HasUsedJobs}

-- it stands past the elements that were there before
abbrev pub StandsLater : {X : Type 0} → List X → List X → X → Type 0
StandsLater old new x = (k : ℕ) × (length old ≤ k) × (slice_get new k ≡ Some x)

-- a read of the place stands there that is so
pub record WasReadSo {S E : Type 0} {G : Ghosts S E} (old new : Seat S E G) (place : ℕ) (Is : Finished → Type 0) : Type 0 where
  pub read : Finished
  pub later : StandsLater (view_of old).reads (view_of new).reads read
  pub place_is : read.place ≡ place
  pub so : Is read

-- so does a count of at most so many commits, and the log has so many entries
abbrev pub SawNoMore : {S E : Type 0} {G : Ghosts S E} → Seat S E G → Seat S E G → ℕ → Type 0
SawNoMore old new met = ((count : ℕ) × StandsLater (view_of old).sees (view_of new).sees count × (count ≤ met)) × (met ≤ length (log_of new))

-- three steps of one list, in order: a claim of the place that found the clean word, a put there, and a finish for the
-- mark
pub record EndsWithWork {E : Type 0} (old new : List (OwnStep E)) (place : ℕ) (clean : Clean) (mark : ℕ) : Type 0 where
  pub before : List (OwnStep E)
  pub claim : OwnStep E
  pub put : OwnStep E
  pub finish : OwnStep E
  pub word : ℕ
  pub whole : new ≡ before ++ claim ∷ put ∷ finish ∷ []
  pub earlier : length old ≤ length before
  pub claims : (view : ℕ) × (claim.made.event ≡ Claim view place clean)
  pub found : claim.made.word ≡ word_of_clean clean
  pub puts : (view : ℕ) × (put.made.event ≡ Put view place word)
  pub finishes : (view : ℕ) × (finish.made.event ≡ Finish view place mark)

module _ {S : Type 0} {G : Ghosts S Entry} (opening : SheetValue) (old : Seat S Entry G) where
  -- Done: one finish more, for the mark of a read that the turn made of the cell as out of date; no claim was refused;
  -- and the last steps are the work
  abbrev pub DoneIsOneFinish : Type 0
  DoneIsOneFinish =
      (new : Seat S Entry G) (cell : Position) → HasCause opening old new (Done cell)
      → WasReadSo old new (place_of opening.sizes cell) (λ read. ((read.clean.upto ≢ read.mark + 1)
      × ((view_of new).done ≡ (view_of old).done ++ record { place = place_of opening.sizes cell; mark = read.mark } ∷ [])
      × EndsWithWork (own_steps old) (own_steps new) (place_of opening.sizes cell) read.clean read.mark))
      × ((view_of new).lost ≡ (view_of old).lost)

  -- no other answer comes with a finish,
  abbrev pub OthersFinishNothing : Type 0
  OthersFinishNothing = (new : Seat S Entry G) (turn : Turn) → HasCause opening old new turn
      → ((cell : Position) → turn ≢ Done cell) → (view_of new).done ≡ (view_of old).done

  -- none but Busy comes with a refused claim,
  abbrev pub OthersLoseNothing : Type 0
  OthersLoseNothing = (new : Seat S Entry G) (turn : Turn) → HasCause opening old new turn
      → ((cell : Position) (seen found : Clean) → turn ≢ Busy cell seen found) → (view_of new).lost ≡ (view_of old).lost

  -- and after each the seat holds what it held
  abbrev pub HoldsStay : Type 0
  HoldsStay = (new : Seat S Entry G) (turn : Turn) → HasCause opening old new turn → (view_of new).holds ≡ (view_of old).holds

  -- Nothing: a read of the cell shows it as computed for its mark
  abbrev pub NothingWasClean : Type 0
  NothingWasClean =
      (new : Seat S Entry G) (cell : Position) → HasCause opening old new (Nothing cell)
      → WasReadSo old new (place_of opening.sizes cell) (λ read. read.clean.upto ≡ read.mark + 1)

  -- Later: a read of the cell has the mark, which is past the entries that were met
  abbrev pub LaterIsPast : Type 0
  LaterIsPast =
      (new : Seat S Entry G) (cell : Position) (mark met : ℕ) → HasCause opening old new (Later cell mark met)
      → WasReadSo old new (place_of opening.sizes cell) (λ read. read.mark ≡ mark) × (met < mark) × SawNoMore old new met

  -- Stale: a read of an input of the cell shows it as out of date, and the cell is on no cycle
  abbrev pub StaleHasAnInput : Type 0
  StaleHasAnInput =
      (new : Seat S Entry G) (cell input : Position) (met : ℕ) → HasCause opening old new (Stale cell input met)
      → IsInput (after opening (take met (log_of new))) cell input
      × WasReadSo old new (place_of opening.sizes input) (λ read. ((read.clean.upto ≢ read.mark + 1) ⊎ (met < read.mark)))
      × SawNoMore old new met × ¬ Leads (IsInput (after opening (log_of new))) cell cell

  -- Busy: a read of the cell has the clean word, which is held and is what was found; or what was found differs, and is
  -- the one more clean word that a refused claim of the cell found
  abbrev pub BusyFoundAnother : Type 0
  BusyFoundAnother =
      (new : Seat S Entry G) (cell : Position) (seen found : Clean) → HasCause opening old new (Busy cell seen found)
      → WasReadSo old new (place_of opening.sizes cell) (λ read. read.clean ≡ seen)
      × (((seen.held ≡ true) × (found ≡ seen) × ((view_of new).lost ≡ (view_of old).lost))
      ⊎ ((found ≢ seen) × ((view_of new).lost ≡ (view_of old).lost ++ record { place = place_of opening.sizes cell; found = found } ∷ [])))

-- the jobs of a turn: none where it is idle
abbrev pub IdleTakesNone : Type 0
IdleTakesNone =
    (sizes : Sizes) (old new : Hand) → HasUsedJobs sizes old new Idle
    → (taken_of new ≡ taken_of old) × (put_of new ≡ put_of old) × (refused_of new ≡ refused_of old)

-- one is taken by each other answer, here by those that end the cell's work: nothing is offered
abbrev pub TakesOneAndOffersNone : Type 0
TakesOneAndOffersNone =
    (sizes : Sizes) (old new : Hand) (cell : Position)
    → HasUsedJobs sizes old new (Done cell) ⊎ HasUsedJobs sizes old new (Nothing cell)
    → (tries : ℕ) × (taken_of new ≡ taken_of old ++ record { cell = cell; tries = tries } ∷ []) × (put_of new ≡ put_of old) × (refused_of new ≡ refused_of old)

-- and here by those after which the cell is tried again: a job with more than one try is offered once with one less,
-- and put or refused
abbrev pub TakesOneAndOffersIt : Type 0
TakesOneAndOffersIt =
    (sizes : Sizes) (old new : Hand) (cell input : Position) (seen found : Clean) (mark met : ℕ)
    → HasUsedJobs sizes old new (Later cell mark met) ⊎ HasUsedJobs sizes old new (Stale cell input met)
    ⊎ HasUsedJobs sizes old new (Busy cell seen found) ⊎ HasUsedJobs sizes old new (Memory cell)
    → (tries : ℕ) × (taken_of new ≡ taken_of old ++ record { cell = cell; tries = tries } ∷ [])
    × (1 < tries → (left : ℕ) × (left + 1 ≡ tries)
    × (((put_of new ≡ put_of old ++ record { cell = cell; tries = left } ∷ []) × (refused_of new ≡ refused_of old))
    ⊎ ((put_of new ≡ put_of old) × (refused_of new ≡ refused_of old ++ record { cell = cell; tries = left } ∷ []))))
    × (tries ≤ 1 → (put_of new ≡ put_of old) × (refused_of new ≡ refused_of old))
