use denote.Param.Send.{sendable}
use Rattle.live_run.proofs.ClientSent.{client_send}
use Rattle.live_run.proofs.sharing.clients_cross.Goals as goal

pub returns : goal.returns
returns g c =
    client_send _ g.N.Naming g.N.Ledger (
      search sendable,
      (
        c.passes_cross.ensures,
        (
          record { owned = c.may_go.ensures.owned; leaving = λ k x w. tt },
          (record { owned = c.may_go-2.ensures.owned; leaving = λ k x w. tt }, (search sendable, tt)),
        ),
      ),
    )
