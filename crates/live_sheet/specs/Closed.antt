-- What closing gives.
use Rattle.std.specs.Prelude.{◌≡◌, ◌<◌, ◌+◌, ◌==◌, ℕ, List, [], ◌∷◌, Option, Some, None, length, filter, slice_get, All, Contains}
use Rattle.atomic_table.specs.Seated.{TableId}
use Rattle.edit_log.specs.Touches.{place_worth, TouchesPlace}
use Rattle.mark_core.specs.declared.actors.Edits.{Edits}
use Rattle.mark_core.specs.declared.words.Finished.{Finished}
use Rattle.mark_core.specs.Legal.{IsLegalRead}
use Rattle.mark_core.specs.Marks.{IsPrefix}
use Rattle.mark_core.specs.Runs.{IsCodeless}
use Rattle.mark_core.specs.declared.subjects.Subject.{Ghosts as SubjectGhosts}
use Rattle.mark_words.specs.declared.seats.Seat.{Seat}
use Rattle.mark_words.specs.Tokens.{topic_of, view_of}
use Rattle.sheet_model.specs.Logs.{after}
use Rattle.sheet_model.specs.Sheets.{SheetValue}
use Rattle.sheet_model.specs.Values.{AreValues}
use Rattle.sheet_model.specs.declared.entry.Entry.{Entry}
use Rattle.live_sheet.specs.Accepted.{AreAccepted, accepted_in}
use Rattle.live_sheet.specs.Held.{IsFreeSeat}
use Rattle.live_sheet.specs.Passes.{client_of, pass_log, numbers_of, accepted_of}
use Rattle.live_sheet.specs.declared.naming.Naming.{Ghosts}
use Rattle.live_sheet.specs.declared.closed.Closed.{Closed}
use Rattle.live_sheet.specs.declared.live.Live.{Live}
use Rattle.live_sheet.specs.declared.pass.Pass.{Pass}

-- how many entries of a log are the client's
abbrev pub entries_by : ℕ → List Entry → ℕ
entries_by client log = length (filter (λ (entry : Entry). entry.client == client) log)

-- the entries of a log, and none that is pending
abbrev pub edits_in : List Entry → Edits Entry
edits_in log = record { log = log; pending = None; marked = [] }

-- a read with this word is legal over the log, where the sheet opened with these codes
abbrev pub IsLegalOver : SheetValue → List (Option ℕ) → List Entry → Finished → ℕ → Type 0
IsLegalOver opening codes log read word = IsLegalRead (place_worth opening) (TouchesPlace opening) (IsCodeless codes) (edits_in log) read word

-- so is each read with a word that a seat keeps
abbrev pub ReadsAreLegal : {S : Type 0} {G : SubjectGhosts S Entry} → SheetValue → List (Option ℕ) → List Entry → Seat S Entry G → Type 0
ReadsAreLegal opening codes log seat =
    (read : Finished) (word : ℕ) → Contains (view_of seat).reads read → read.word ≡ Some word → IsLegalOver opening codes log read word

module _ {N : Type 0} {G : Ghosts N} where
  -- the codes with which the cells opened, row by row
  abbrev pub codes_of : Live N G → List (Option ℕ)
  codes_of live = (topic_of live.marks).opening.value

  -- the pass at each place of the list is that of the client with this number
  abbrev pub AreInOrder : List (Pass N G) → Type 0
  AreInOrder passes = (client : ℕ) (pass : Pass N G) → slice_get passes client ≡ Some pass → client_of pass ≡ client

  -- how many accepted edits the passes have together
  abbrev pub accepted_count : List (Pass N G) → ℕ
  accepted_count [] = 0
  accepted_count (pass ∷ passes) = length (numbers_of pass) + accepted_count passes

  -- what a pass keeps of its seat and its accepted edits
  pub record IsPassIn (words : TableId) (opening : SheetValue) (pass : Pass N G) : Type 0 where
    pub seat : IsFreeSeat words opening pass.seat
    pub accepted : AreAccepted (client_of pass) (pass_log pass) (numbers_of pass)

  -- The log goes on from the one that the pass knows. Each accepted edit of the pass stands there under its number and its
  -- client, and the client has no other entries. Each read with a word that the pass keeps is legal over the log.
  pub record EndsWith (opening : SheetValue) (codes : List (Option ℕ)) (log : List Entry) (pass : Pass N G) : Type 0 where
    pub known : IsPrefix (pass_log pass) log
    pub accepted : AreAccepted (client_of pass) log (numbers_of pass)
    pub same : accepted_in log (numbers_of pass) ≡ accepted_of pass
    pub whole : entries_by (client_of pass) log ≡ length (numbers_of pass)
    pub legal : ReadsAreLegal opening codes log pass.seat

  -- What a closed sheet shows: for each pass how it ends; that no other client has an entry; that the sheet is the opening
  -- one after the log; and that the values are those of all its cells, row by row.
  pub record HasClosedWith (opening : SheetValue) (codes : List (Option ℕ)) (passes : List (Pass N G)) (closed : Closed) : Type 0 where
    pub each : All (EndsWith opening codes closed.log.items) passes
    pub others : All (λ (entry : Entry). entry.client < length passes) closed.log.items
    pub sheet_is : closed.sheet ≡ after opening closed.log.items
    pub values_are : AreValues closed.sheet closed.values.items
