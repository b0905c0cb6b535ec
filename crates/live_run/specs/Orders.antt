-- How commands become orders: a look takes over the board of the last report of some.
use Rattle.std.specs.Prelude.{◌≡◌, ◌<◌, Bool, true, false, List, [], ◌∷◌, ◌++◌, length}
use Rattle.sheet_refs.specs.Cells.{Corners}
use Rattle.edit_script.specs.declared.script.Command.{Command}
use Rattle.edit_script.specs.declared.script.Command.TheVariants as asks
use Rattle.sheet_model.specs.declared.report.Report.{Report}
use Rattle.live_run.specs.declared.order.Order.{Order}
use Rattle.live_run.specs.declared.order.Order.TheVariants.{Put, Look}

-- the last report is gone, and its board is that of an order to look
pub record TakesBoard (firm : Bool) (window : Corners) (order : Order) (before after : List Report) : Type 0 where
  pub report : Report
  pub taken : before ≡ after ++ report ∷ []
  pub order_is : order ≡ Look firm window report.board

-- what a command wants of the reports from which it takes: a look, that there is one; turns of work have no order
abbrev pub MayTake : Command → List Report → Type 0
MayTake (asks.Put edit) before = Unit {0}
MayTake (asks.Look window) before = 0 < length before
MayTake (asks.Firm window) before = 0 < length before
MayTake (asks.Work turns) before = ⊥

-- the order of a command
abbrev pub IsOrderOf : Command → Order → List Report → List Report → Type 0
IsOrderOf (asks.Put edit) order before after = (order ≡ Put edit) × (after ≡ before)
IsOrderOf (asks.Look window) order before after = TakesBoard false window order before after
IsOrderOf (asks.Firm window) order before after = TakesBoard true window order before after
IsOrderOf (asks.Work turns) order before after = ⊥
