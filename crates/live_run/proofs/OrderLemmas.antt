-- Commands become orders, the last one first.
use Rattle.std.proofs.Common.{◌≡◌, ◌<◌, suc, Bool, List, [], ◌∷◌, ◌++◌, true, false, All, length, map, refl, sym, ◌∙◌}
use Rattle.std.proofs.Common.{ap, subst, arith, append_assoc, length-append}
use Rattle.std.specs.List.{AllZip}
use Rattle.std.specs.Prelude.{reverse}
use Rattle.std.proofs.lemmas.List.{append-nil, map-append, reverse-append, length-reverse, length-map}
use Rattle.std.proofs.lemmas.List.Elements.{All-cons, All-nil, All-push}
use Rattle.std.proofs.lemmas.Slice.Zip.{AllZip-long}
use Rattle.edit_script.specs.declared.script.Command.{Command}
use Rattle.edit_script.specs.declared.script.Command.TheVariants as asks
use Rattle.sheet_model.specs.Sheets.{SheetValue}
use Rattle.sheet_refs.specs.Cells.{Corners}
use Rattle.sheet_model.specs.declared.report.Report.{Report}
use Rattle.live_run.specs.Client.{IsOrderFor, command_of, commands_of, look_command}
use Rattle.live_run.specs.Legal.{LookAsked, edits_asked, looks_asked, looks_behind}
use Rattle.live_run.specs.Orders.{IsOrderOf, MayTake, TakesBoard}
use Rattle.live_run.specs.Runs.{AreCommandsFor, AreReportsFor, IsCommandFor, IsReportFor, IsWindowFor}
use Rattle.live_run.specs.declared.order.Order.{Order}
use Rattle.live_run.proofs.CommandLemmas.{looks_more}
use Rattle.live_run.proofs.ZipLemmas.{zip_last}

-- the command of an order more comes before those of the orders before it
pub commands_push : (orders : List Order) (order : Order) → commands_of (orders ++ order ∷ []) ≡ command_of order ∷ commands_of orders
commands_push orders order = ap reverse (map-append command_of orders (order ∷ [])) ∙ reverse-append (map command_of orders) (command_of order ∷ [])

commands_count : (orders : List Order) → length (commands_of orders) ≡ length orders
commands_count orders = length-reverse (map command_of orders) ∙ length-map orders command_of

pub last_for : {A : Type 0} (P : A → Type 0) (xs : List A) (x : A) → All P (xs ++ x ∷ []) → All P xs × P x
last_for P [] x all = (All-nil P, all 0 x (omega arith))
last_for P (a ∷ xs) x all =
    let rest = last_for P xs x (λ k d below. all (suc k) d (omega (arith, below))) in
    (All-cons P a xs (all 0 a (omega arith)) rest.0, rest.1)

-- one look more is one report more
one_left : (looks : List LookAsked) (look : LookAsked) (reports : List Report) → AllZip IsReportFor (looks ++ look ∷ []) reports → 0 < length reports
one_left looks look reports zip = omega (arith, length-append looks (look ∷ []), AllZip-long IsReportFor (looks ++ look ∷ []) reports zip)

module _ (sheet : SheetValue) where
  -- what a command's order takes from reports that are for the commands up to it
  record IsTaken (commands : List Command) (command : Command) (order : Order) (after : List Report) : Type 0 where
    reports : AreReportsFor commands after
    fits : IsOrderFor sheet order
    command_is : command_of order ≡ command

  taken_look : (firm : Bool) (window : Corners) (command : Command) (commands : List Command) (order : Order)
      (before after : List Report) → look_command firm window ≡ command → IsWindowFor sheet window
      → AllZip IsReportFor (looks_asked commands ++ record {
        firm = firm;
        window = window;
        made = length (edits_asked commands);
      } ∷ []) before → TakesBoard firm window order before after
      → IsTaken commands command order after
  taken_look firm window command commands order before after is fit zip taken =
      let look : LookAsked = record { firm = firm; window = window; made = length (edits_asked commands) } in
      let parts = zip_last IsReportFor (looks_asked commands) after look taken.report
      (subst (λ (l : List Report). AllZip IsReportFor (looks_asked commands ++ look ∷ []) l) taken.taken zip) in
      record {
        reports = parts.0;
        fits = subst (IsOrderFor sheet) (sym taken.order_is) (fit.inside, parts.1.room);
        command_is = ap command_of taken.order_is ∙ is;
      }

  taken : (commands : List Command) (command : Command) (order : Order) (before after : List Report) → IsCommandFor sheet command
      → AllZip IsReportFor (looks_asked commands ++ looks_behind (length (edits_asked commands)) (command ∷ [])) before → IsOrderOf command order before after
      → IsTaken commands command order after
  taken commands (asks.Put edit) order before after fit zip is =
      record {
        reports =
            subst (λ (l : List Report). AllZip IsReportFor (looks_asked commands) l) (sym is.1)
            (subst (λ (l : List LookAsked). AllZip IsReportFor l before) (append-nil (looks_asked commands)) zip);
        fits = subst (IsOrderFor sheet) (sym is.0) fit;
        command_is = ap command_of is.0;
      }
  taken commands (asks.Look window) order before after fit zip is = taken_look false window (asks.Look window) commands order before after refl fit zip is
  taken commands (asks.Firm window) order before after fit zip is = taken_look true window (asks.Firm window) commands order before after refl fit zip is
  taken commands (asks.Work turns) order before after fit zip is = absurd is

  may_take : (commands : List Command) (command : Command) (before : List Report) → IsCommandFor sheet command
      → AllZip IsReportFor (looks_asked commands ++ looks_behind (length (edits_asked commands)) (command ∷ [])) before → MayTake command before
  may_take commands (asks.Put edit) before fit zip = tt
  may_take commands (asks.Look window) before fit zip =
      one_left (looks_asked commands) (record { firm = false; window = window; made = length (edits_asked commands) })
      before zip
  may_take commands (asks.Firm window) before fit zip =
      one_left (looks_asked commands) (record { firm = true; window = window; made = length (edits_asked commands) })
      before zip
  may_take commands (asks.Work turns) before fit zip = absurd fit

  -- the orders of the last commands, which were taken away with their reports
  pub record OrdersSoFar (all commands : List Command) (orders : List Order) (reports : List Report) : Type 0 where
    pub whole : all ≡ commands ++ commands_of orders
    pub left : AreCommandsFor sheet commands
    pub reports_are : AreReportsFor commands reports
    pub fit : All (IsOrderFor sheet) orders

  pub orders_begin : (all : List Command) (reports : List Report) (orders : List Order) → orders ≡ []
      → AreCommandsFor sheet all → AreReportsFor all reports → OrdersSoFar all all orders reports
  orders_begin all reports orders none left are =
      record {
        whole = sym (append-nil all) ∙ ap (λ l. all ++ commands_of l) (sym none);
        left = left;
        reports_are = are;
        fit = subst (λ (l : List Order). All (IsOrderFor sheet) l) (sym none) (All-nil (IsOrderFor sheet));
      }

  module _ (all commands rest : List Command) (command : Command) (orders : List Order) (reports : List Report)
      (split : commands ≡ rest ++ command ∷ []) (so : OrdersSoFar all commands orders reports) where
    zip : AllZip IsReportFor (looks_asked rest ++ looks_behind (length (edits_asked rest)) (command ∷ [])) reports
    zip = subst (λ (l : List LookAsked). AllZip IsReportFor l reports) (ap looks_asked split ∙ looks_more rest command) so.reports_are

    left : AreCommandsFor sheet rest × IsCommandFor sheet command
    left = last_for (IsCommandFor sheet) rest command (subst (λ (l : List Command). AreCommandsFor sheet l) split so.left)

    pub can_take : MayTake command reports
    can_take = may_take rest command reports left.1 zip

    pub orders_go_on : (order : Order) (after : List Report) (pushed : List Order)
        → IsOrderOf command order reports after → pushed ≡ orders ++ order ∷ [] → OrdersSoFar all rest pushed after
    orders_go_on order after pushed is push =
        let one = taken rest command order reports after left.1 zip is in
        record {
          whole =
              so.whole
              ∙ ap (λ l. l ++ commands_of orders) split
              ∙ append_assoc rest (command ∷ []) (commands_of orders)
              ∙ ap (λ c. rest ++ c ∷ commands_of orders) (sym one.command_is)
              ∙ ap (λ l. rest ++ l) (sym (commands_push orders order))
              ∙ ap (λ l. rest ++ commands_of l) (sym push);
          left = left.0;
          reports_are = one.reports;
          fit = subst (λ (l : List Order). All (IsOrderFor sheet) l) (sym push) (All-push (IsOrderFor sheet) orders order so.fit one.fits);
        }

  -- once all are taken
  module _ (all commands : List Command) (orders : List Order) (reports : List Report) (none : commands ≡ [])
      (so : OrdersSoFar all commands orders reports) where
    pub orders_are : commands_of orders ≡ all
    orders_are = sym (so.whole ∙ ap (λ l. l ++ commands_of orders) none)

    pub orders_count : length orders ≡ length all
    orders_count = sym (commands_count orders) ∙ ap length orders_are

    pub no_reports : reports ≡ []
    no_reports = empty reports (subst (λ (l : List Command). AreReportsFor l reports) none so.reports_are)
      where
        empty : (reports : List Report) → AreReportsFor [] reports → reports ≡ []
        empty [] are = refl
        empty (report ∷ reports) are = absurd are
