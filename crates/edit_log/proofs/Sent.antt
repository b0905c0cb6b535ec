-- A book may go to another thread where its parts may.
use denote.RattleType.{RattleType}
use denote.Struct.Declared.{shape}
use denote.Param.Send.{IsSend, sendable, view_send, struct_send, recorded_send}
use Rattle.graph_walk.specs.declared.graph.Graph.{Ghosts}
use Rattle.sheet_model.specs.contracts.sheet.Sheet as sheet
use Rattle.sheet_model.specs.contracts.entry.Entry as entry
use Rattle.std.specs.contracts.vec.Vec as vec
use Rattle.sheet_refs.specs.contracts.rect_set.RectSet as rect_set
use Rattle.sheet_model.specs.contracts.kept_values.KeptValues as kept_values
use Rattle.std.specs.contracts.alloc.Global as global
use Rattle.std.specs.contracts.impls.GlobalAllocator.TheImpl as impl
use Rattle.edit_log.specs.contracts.book.Book.{the_row}
use Rattle.edit_log.specs.contracts.book.Book.TheInside as inside

module _ (G : RattleType) (g : Ghosts G.Denot) (of_sheet : IsSend sheet.the_row)
    (of_log : IsSend (vec.the_row entry.the_row global.the_row impl.ghosts)) (of_set : IsSend rect_set.the_row)
    (of_values : IsSend kept_values.the_row) (of_graph : IsSend G) where
  fields_send : IsSend (inside.the_row G g)
  fields_send =
      recorded_send (inside.the_field G g).row _ _ (inside.the_type G g).to_one
      (struct_send (shape (inside.the_type G g)) (
        search sendable,
        (of_sheet, (search sendable, (of_log, (search (sendable, of_set) depth 20, (search (sendable, of_values) depth 20, (search sendable, tt)))))),
      ))

  pub book_send : IsSend (the_row G g)
  book_send = view_send (inside.the_row G g) _ _ _ _ fields_send
