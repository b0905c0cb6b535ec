use Rattle.live_sheet.proofs.Sent.{desk_send, store_send}
use Rattle.live_sheet.proofs.sharing.desks_cross.Goals as goal

pub returns : goal.returns
returns g c =
    let e = c.entries_cross.ensures.send in
    let of_store =
    store_send _ g.N.Naming g.N.Ledger c.type_bounds.send-N c.type_bounds.sync-N e
    (record { owned = c.may_be_sent.ensures.owned; leaving = λ k x w. tt }) in
    desk_send _ g.N.Naming g.N.Ledger c.type_bounds.send-N c.type_bounds.sync-N e of_store
