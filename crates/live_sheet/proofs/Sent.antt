-- What of a live sheet threads may hand on and share.
use denote.RattleType.{RattleType}
use denote.Param.Send.{IsSend, IsSync, sendable, view_send}
use denote.Param.SendFields.{FieldsHave, declared_send, declared_sync}
use Rattle.std.proofs.sync.ledger.Book.TheSendSync.{the_send as send_counts}
use Rattle.std.proofs.sync.ledger.Share.TheSendSync.{the_send as send_share}
use Rattle.std.proofs.Crossing.{crosses}
use Rattle.std.specs.contracts.alloc.Global as global
use Rattle.std.specs.contracts.impls.GlobalAllocator.TheImpl as allocator
use Rattle.std.specs.contracts.option.Option as option
use Rattle.std.specs.contracts.sync.ledger.Book as counts
use Rattle.std.specs.contracts.vec.Vec as vec
use Rattle.std.specs.declared.sync.ledger.Ledger.{Ghosts as LedgerGhosts}
use Rattle.edit_log.specs.contracts.over_sheet.OverSheet as over
use Rattle.edit_log.specs.contracts.over_sheet.OverSheetSubject.TheImpl as subject
use Rattle.mark_words.proofs.seats.Seat.TheSendSync.{the_send as send_seat}
use Rattle.mark_words.specs.contracts.seats.Seat as seat
use Rattle.recalc_workers.proofs.desk.Desk.TheSendSync.{the_send as send_desk}
use Rattle.recalc_workers.proofs.hands.Hand.TheSendSync.{the_send as send_hand}
use Rattle.recalc_workers.specs.contracts.desk.Desk as worker
use Rattle.recalc_workers.specs.contracts.hands.Hand as hand
use Rattle.sheet_model.specs.contracts.entry.Entry as entry
use Rattle.live_sheet.proofs.rest.Rest.TheSendSync.{the_send as send_rest}
use Rattle.live_sheet.specs.contracts.desk.Desk as desk
use Rattle.live_sheet.specs.contracts.live.Live as live
use Rattle.live_sheet.specs.contracts.locked.Locked as locked
use Rattle.live_sheet.specs.contracts.pass.Pass as pass
use Rattle.live_sheet.specs.contracts.rest.Rest as rest
use Rattle.live_sheet.specs.contracts.store.Store as store
use Rattle.live_sheet.specs.contracts.store.Store.TheInside as inside
use Rattle.live_sheet.specs.contracts.stored.Stored as stored
use Rattle.live_sheet.specs.declared.naming.Naming.{Ghosts}

pub seat_send : IsSend entry.the_row → IsSend (seat.the_row over.the_row entry.the_row subject.ghosts)
seat_send e = search (send_seat) depth 20

hand_send : IsSend hand.the_row
hand_send = search (send_hand) depth 20

pub worker_send : IsSend entry.the_row → IsSend (worker.the_row over.the_row entry.the_row subject.ghosts)
worker_send e = search (send_desk) depth 20

module _ (N : RattleType) (n : Ghosts N.Denot) (l : LedgerGhosts N.Denot) (send : IsSend N) (sync : IsSync N) (e : IsSend entry.the_row) where
  pub pass_send : IsSend (pass.the_row N n l)
  pass_send =
      declared_send (pass.the_type N n l)
      (search (sendable, crosses) depth 40, (seat_send e, (hand_send, (search (send_share) depth 20, (search (sendable, crosses) depth 40, tt)))))

  -- a desk's store, where its slots may
  pub store_send : IsSend (vec.the_row (option.the_row stored.the_row) global.the_row allocator.ghosts) → IsSend (store.the_row N n l)
  store_send of_slots =
      view_send (inside.the_row N n l) _ _ _ _ (
      declared_send (inside.the_type N n l)
      (seat_send e, (search (sendable, crosses) depth 40, (of_slots, (search (sendable, crosses) depth 40, tt))))
      )

  pub desk_send : IsSend (store.the_row N n l) → IsSend (desk.the_row N n l)
  desk_send of_store = declared_send (desk.the_type N n l)
      (worker_send e, (search (sendable, crosses) depth 40, (search (sendable, crosses) depth 40, tt)))

  -- what lies behind the lock, where the book may
  pub locked_send : FieldsHave IsSend (locked.the_type N n l).parts → IsSend (locked.the_row N n l)
  locked_send all = declared_send (locked.the_type N n l) all

  pub counts_send : IsSend (counts.the_row N l)
  counts_send = search (send_counts) depth 20

  pub rest_send : IsSend (rest.the_row N n l)
  rest_send = search (send_rest) depth 20

module _ (N : RattleType) (n : Ghosts N.Denot) (l : LedgerGhosts N.Denot) where
  pub live_sync : FieldsHave IsSync (live.the_type N n l).parts → IsSync (live.the_row N n l)
  live_sync all = declared_sync (live.the_type N n l) all
