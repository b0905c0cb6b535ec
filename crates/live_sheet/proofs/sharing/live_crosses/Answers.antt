use denote.Param.Send.{sendable}
use Rattle.std.proofs.Crossing.{crosses}
use Rattle.live_sheet.proofs.Sent.{live_sync}
use Rattle.live_sheet.proofs.sharing.live_crosses.Goals as goal

pub returns : goal.returns
returns g c =
    let of_locked = c.locked_crosses.ensures in
    live_sync _ g.N.Naming g.N.Ledger (
      record { shared = c.may_be_shared.ensures.shared },
      (
        record { shared = c.may_be_shared-2.ensures.shared },
        (
          search (sendable, crosses) depth 40,
          (
            record { shared = c.may_be_shared-3.ensures.shared },
            (record { shared = c.may_be_shared-4.ensures.shared }, tt),
          ),
        ),
      ),
    )
