-- What an edit tells its client.
use Rattle.std.specs.Prelude.{◌≡◌, ◌≤◌, ◌<◌, ◌+◌, ◌⊎◌, ℕ, List, [], ◌∷◌, ◌++◌, Some, length}
use Rattle.edit_log.specs.Books.{client_entry}
use Rattle.edit_log.specs.Refusals.{IsFirstOutside}
use Rattle.edit_log.specs.Touches.{AreTouched}
use Rattle.edit_log.specs.declared.refused.PrepareRefused.{PrepareRefused}
use Rattle.edit_log.specs.declared.refused.PrepareRefused.TheVariants as prepare
use Rattle.mark_core.specs.Marks.{IsPrefix}
use Rattle.mark_words.specs.Tokens.{doing_of, own_steps}
use Rattle.recalc_workers.specs.Offers.{AreOffered}
use Rattle.sheet_model.specs.Edits.{EditValue, AreInSheet}
use Rattle.sheet_model.specs.Sheets.{SheetValue}
use Rattle.sheet_model.specs.declared.entry.Entry.{Entry}
use Rattle.sheet_refs.specs.Cells.{Position}
use Rattle.live_sheet.specs.declared.committed.EditRefused.{EditRefused}
use Rattle.live_sheet.specs.declared.committed.EditRefused.TheVariants.{OutOfSheet, LogFull, Memory}
use Rattle.live_sheet.specs.declared.naming.Naming.{Ghosts}
use Rattle.live_sheet.specs.declared.pass.Pass.{Pass}
use Rattle.live_sheet.specs.Edits.{HasLearned}
use Rattle.live_sheet.specs.Passes.{client_of, pass_log, pass_seen, numbers_of, accepted_of, KeepsOffice}

module _ {N : Type 0} {G : Ghosts N} where
  -- The pass knows a log that ends with the edit under its client, at this number, which is above every number that it saw
  -- before. The log goes on from the one that it knew. The edit is the last one of its accepted edits.
  pub record IsCommitted (edit : EditValue) (number : ℕ) (before : List Entry) (old new : Pass N G) : Type 0 where
    pub whose : client_of new ≡ client_of old
    pub goes_on : IsPrefix (pass_log old) before
    pub counted : number ≡ length before + 1
    pub log : pass_log new ≡ before ++ client_entry (client_of old) edit ∷ []
    pub later : pass_seen old < number
    pub seen : number ≤ pass_seen new
    pub numbers : numbers_of new ≡ numbers_of old ++ number ∷ []
    pub accepted : accepted_of new ≡ accepted_of old ++ (number, Some (client_entry (client_of old) edit)) ∷ []
    pub met : HasLearned old.seat new.seat new.seat

  -- It is committed, and a job was offered for each cell that it touches, row by row.
  pub record HasCommitted (opening : SheetValue) (edit : EditValue) (old new : Pass N G) (number : ℕ) : Type 0 where
    pub before : List Entry
    pub committed : IsCommitted edit number before old new
    pub touched : List Position
    pub are_touched : AreTouched opening before (client_entry (client_of old) edit) touched
    pub offered : AreOffered opening.sizes old.hand touched new.hand

  -- the pass is as it was
  pub record IsSamePass (old new : Pass N G) : Type 0 where
    pub seat : doing_of new.seat ≡ doing_of old.seat
    pub steps : own_steps new.seat ≡ own_steps old.seat
    pub kept : KeepsOffice old new

  -- the pass has met the editor's seat, and knows a full log; it has lost nothing that it knew, had seen and had read
  pub record KnowsFull (old new : Pass N G) : Type 0 where
    pub goes_on : IsPrefix (pass_log old) (pass_log new)
    pub full : length (pass_log new) ≡ 1048576
    pub kept : KeepsOffice old new
    pub accepted : accepted_of new ≡ accepted_of old
    pub met : HasLearned old.seat new.seat new.seat

  -- Why an edit is refused, and what stands then: a changed cell is outside, and this is the first one; or all are inside and
  -- the log is full; or there was no memory.
  abbrev pub IsRefusal : SheetValue → EditValue → Pass N G → Pass N G → EditRefused → Type 0
  IsRefusal opening edit old new (OutOfSheet cell) = IsFirstOutside opening edit cell × IsSamePass old new
  IsRefusal opening edit old new (LogFull count) = AreInSheet opening edit × (count ≡ 1048576) × KnowsFull old new
  IsRefusal opening edit old new Memory = IsSamePass old new

  -- the pass knows this log, and has its accepted edits and its offers still
  pub record IsToldLog (log : List Entry) (old new : Pass N G) : Type 0 where
    pub goes_on : IsPrefix (pass_log old) (pass_log new)
    pub log_is : pass_log new ≡ log
    pub kept : KeepsOffice old new
    pub accepted : accepted_of new ≡ accepted_of old
    pub met : HasLearned old.seat new.seat new.seat

  -- an edit that the book refuses is refused in the same way; where its log is full, the pass knows that log
  abbrev pub IsRefusedAs : List Entry → Pass N G → Pass N G → PrepareRefused → EditRefused → Type 0
  IsRefusedAs log old new (prepare.OutOfSheet cell) answer = (answer ≡ OutOfSheet cell) × IsSamePass old new
  IsRefusedAs log old new (prepare.LogFull count) answer =
      (answer ≡ LogFull count) × IsToldLog log old new
  IsRefusedAs log old new prepare.Memory answer = (answer ≡ Memory) × IsSamePass old new
