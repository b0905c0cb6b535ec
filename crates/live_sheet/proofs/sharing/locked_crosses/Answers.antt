use denote.Param.Send.{sendable}
use Rattle.std.proofs.Crossing.{crosses}
use Rattle.live_sheet.proofs.Sent.{counts_send, locked_send, rest_send, seat_send, worker_send}
use Rattle.live_sheet.proofs.sharing.locked_crosses.Goals as goal

pub returns : goal.returns
returns g c =
    let e = c.entries_cross.ensures.send in
    let of_worker = worker_send e in
    locked_send _ g.N.Naming g.N.Ledger c.type_bounds.send-N c.type_bounds.sync-N e (
      record { owned = c.book_crosses.ensures.owned; leaving = λ k x w. tt },
      (
        seat_send e,
        (
          search (sendable, crosses) depth 40,
          (
            counts_send _ g.N.Naming g.N.Ledger c.type_bounds.send-N c.type_bounds.sync-N e,
            (rest_send _ g.N.Naming g.N.Ledger c.type_bounds.send-N c.type_bounds.sync-N e, tt),
          ),
        ),
      ),
    )
