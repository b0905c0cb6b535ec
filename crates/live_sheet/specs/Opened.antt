-- What passes and desks begin with.
use Rattle.std.specs.Prelude.{◌≡◌, ℕ, List, [], length, slice_get, Some}
use Rattle.mark_core.specs.States.{new_view}
use Rattle.mark_words.specs.declared.seats.Seat.{Seat}
use Rattle.mark_words.specs.Tokens.{view_of, own_steps, topic_of}
use Rattle.mark_core.specs.declared.subjects.Subject.{Ghosts as SubjectGhosts}
use Rattle.recalc_workers.specs.Hands.{IsNewHand}
use Rattle.recalc_workers.specs.Desks.{seat_of, hand_of}
use Rattle.std.specs.declared.sync.ledger.Ledger.{Ghosts as LedgerGhosts}
use Rattle.live_sheet.specs.declared.naming.Naming.{Ghosts}
use Rattle.live_sheet.specs.declared.pass.Pass.{Pass}
use Rattle.live_sheet.specs.declared.desk.Desk.{Desk}
use Rattle.live_sheet.specs.declared.live.Live.{Live}
use Rattle.live_sheet.specs.Openings.{opening_codes}
use Rattle.sheet_model.specs.Sheets.{SheetValue}
use Rattle.live_sheet.specs.Passes.{client_of, numbers_of}

-- a seat that knows, has seen and has done nothing
pub record IsNewSeat {S E : Type 0} {G : SubjectGhosts S E} (seat : Seat S E G) : Type 0 where
  pub view : view_of seat ≡ new_view [] 0 []
  pub steps : own_steps seat ≡ []

-- the pass is one of the client and has done nothing
pub record IsNewPass {N : Type 0} {G : Ghosts N} (client : ℕ) (pass : Pass N G) : Type 0 where
  pub whose : client_of pass ≡ client
  pub seat : IsNewSeat pass.seat
  pub hand : IsNewHand pass.hand
  pub none : numbers_of pass ≡ []

-- there is one new pass for each of so many clients, in order
pub record AreNewPasses {N : Type 0} {G : Ghosts N} (clients : ℕ) (passes : List (Pass N G)) : Type 0 where
  pub count : length passes ≡ clients
  pub each : (client : ℕ) (pass : Pass N G) → slice_get passes client ≡ Some pass → IsNewPass client pass

-- the desk has done nothing
pub record IsNewDesk {N : Type 0} {G : Ghosts N} {L : LedgerGhosts N} (desk : Desk N G L) : Type 0 where
  pub seat : IsNewSeat (seat_of desk.desk)
  pub hand : IsNewHand (hand_of desk.desk)

-- the words of a live sheet opened with the codes of the constants of this sheet, and with none where a formula stands
abbrev pub OpensWith : {N : Type 0} {G : Ghosts N} → SheetValue → Live N G → Type 0
OpensWith opening live = (topic_of live.marks).opening.value ≡ opening_codes opening
