use denote.Param.Send.{IsSend}
use Rattle.sheet_model.specs.contracts.sheet.Sheet as sheet
use Rattle.sheet_model.specs.contracts.entry.Entry as entry
use Rattle.std.specs.contracts.vec.Vec as vec
use Rattle.sheet_refs.specs.contracts.rect_set.RectSet as rect_set
use Rattle.sheet_model.specs.contracts.kept_values.KeptValues as kept_values
use Rattle.std.specs.contracts.alloc.Global as global
use Rattle.std.specs.contracts.impls.GlobalAllocator.TheImpl as impl
use Rattle.sheet_model.proofs.kept_values.KeptValues.TheSendSync.{the_send as send_values}
use Rattle.edit_log.proofs.Sent.{book_send}
use Rattle.edit_log.proofs.crossing.book_crosses.Goals as goal

pub returns : goal.returns
returns g c =
    let of_sheet : IsSend sheet.the_row = record { owned = c.may_cross.ensures.owned; leaving = λ k x w. tt } in
    let of_log : IsSend (vec.the_row entry.the_row global.the_row impl.ghosts) = record { owned = c.may_cross-2.ensures.owned; leaving = λ k x w. tt } in
    let of_set : IsSend rect_set.the_row = record { owned = c.may_cross-3.ensures.owned; leaving = λ k x w. tt } in
    let of_values : IsSend kept_values.the_row = search (send_values) depth 20 in
    book_send _ g.G.Graph of_sheet of_log of_set of_values c.type_bounds.send-G
