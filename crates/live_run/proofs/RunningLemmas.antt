-- A client's task while its orders are followed.
use Rattle.std.proofs.Common.{◌≡◌, ◌<◌, ◌≤◌, ◌+◌, ◌^◌, ℕ, Bool, List, [], ◌∷◌, ◌++◌, true, false, All, length, refl}
use Rattle.std.proofs.Common.{sym, ◌∙◌, ap, subst, arith, append_assoc, length-append, vec_capacity}
use Rattle.std.proofs.lemmas.List.{append-nil}
use Rattle.std.proofs.lemmas.List.Elements.{All-nil}
use Rattle.std.proofs.lemmas.Slice.Zip.{AllZip-long}
use Rattle.edit_script.specs.declared.script.Command.{Command}
use Rattle.edit_script.specs.declared.script.Command.TheVariants as asks
use Rattle.live_sheet.specs.Edited.{KnowsFull}
use Rattle.live_sheet.specs.Opened.{IsNewPass}
use Rattle.live_sheet.specs.Passes.{pass_log, pass_seen, pass_view, numbers_of}
use Rattle.live_sheet.specs.declared.naming.Naming.{Ghosts}
use Rattle.live_sheet.specs.declared.pass.Pass.{Pass}
use Rattle.sheet_model.specs.Edits.{AreHeldBeside, EditValue}
use Rattle.sheet_model.specs.Sheets.{SheetValue}
use Rattle.sheet_refs.specs.Cells.{Corners}
use Rattle.sheet_model.specs.declared.report.Report.{Report}
use Rattle.live_run.specs.Client.{Begins, HasMade, HasRun, IsCutAt, IsCutShort, IsLook, IsOrderFor, command_of, commands_of, look_command, task_commands}
use Rattle.live_run.specs.Legal.{edits_asked, looks_asked, looks_behind}
use Rattle.live_run.specs.Told.{HasAnswered, IsReported, StandsAs}
use Rattle.live_run.specs.declared.client.Client.{Client}
use Rattle.live_run.specs.declared.cut.Cut.TheVariants as cut
use Rattle.live_run.specs.declared.order.Order.{Order}
use Rattle.live_run.specs.declared.order.Order.TheVariants.{Put, Look}
use Rattle.live_run.proofs.CommandLemmas.{edits_append, looks_append}
use Rattle.live_run.proofs.OrderLemmas.{commands_push, last_for}
use Rattle.live_run.proofs.StepLemmas.{order_made}

-- an order to look asks for a look
looks_here : (firm : Bool) (window : Corners) (made : ℕ) (more : List Command) → 1 ≤ length (looks_behind made (look_command firm window ∷ more))
looks_here true window made more = omega arith
looks_here false window made more = omega arith

module _ {N : Type 0} {G : Ghosts N} (opening : SheetValue) where
  -- nothing was done yet
  new_run : (client : ℕ) (pass : Pass N G) (reports : List Report) → IsNewPass client pass → reports ≡ [] → HasRun opening client [] pass reports
  new_run client pass reports new none =
      record {
        whose = new.whose;
        answered =
            subst (λ (l : List ℕ). HasAnswered opening client [] (pass_view pass) l reports) (sym new.none)
            (subst (λ (l : List Report). HasAnswered opening client [] (pass_view pass) [] l) (sym none)
            (record {
              edits = tt;
              own = All-nil (λ own. own ≤ pass_seen pass);
              held = All-nil (AreHeldBeside (length opening.labels));
              answered = tt;
              behind = λ i j d lt below. absurd (omega arith);
            }));
      }

  -- some orders were followed, and these are left; so many were counted, and there is room for so many reports
  pub record IsUnderway (client : ℕ) (commands : List Command) (pass : Pass N G) (orders : List Order) (reports : List Report) (number room : ℕ) : Type 0 where
    pub done : List Command
    pub whole : commands ≡ done ++ commands_of orders
    pub run : HasRun opening client done pass reports
    pub fit : All (IsOrderFor opening) orders
    pub fits : length (looks_asked commands) ≤ room
    pub few : number + length orders < 2 ^ 32

  pub underway_begins : (task : Client N G) → Begins opening task
      → IsUnderway task.client (task_commands task) task.pass task.orders.items task.reports.items 0
      (vec_capacity task.reports)
  underway_begins task begins =
      record {
        done = [];
        whole = refl;
        run = new_run task.client task.pass task.reports.items begins.pass begins.none;
        fit = begins.orders;
        fits = begins.room;
        few = let f : length task.orders.items < 2 ^ 32 = begins.few in omega arith;
      }

  module _ (client : ℕ) (commands : List Command) (old : Pass N G) (orders rest : List Order) (order : Order)
      (reports : List Report) (number room : ℕ) (split : orders ≡ rest ++ order ∷ [])
      (so : IsUnderway client commands old orders reports number room) where
    whole_is : commands ≡ so.done ++ command_of order ∷ commands_of rest
    whole_is = so.whole ∙ ap (λ l. so.done ++ commands_of l) split ∙ ap (λ l. so.done ++ l) (commands_push rest order)

    fit_is : All (IsOrderFor opening) rest × IsOrderFor opening order
    fit_is = last_for (IsOrderFor opening) rest order (subst (λ (l : List Order). All (IsOrderFor opening) l) split so.fit)

    pub next_fits : IsOrderFor opening order
    next_fits = fit_is.1

    pub next_counts : number + 1 < 2 ^ 32
    next_counts = let f : number + length orders < 2 ^ 32 = so.few in omega (arith, f, ap length split, length-append rest (order ∷ []))

    room_for : (order : Order) → commands ≡ so.done ++ command_of order ∷ commands_of rest → IsLook order → length reports < room
    room_for (Put edit) is look = absurd look
    room_for (Look firm window board) is look =
        omega (
          arith,
          so.fits,
          ap length (ap looks_asked is ∙ looks_append so.done (look_command firm window ∷ commands_of rest)),
          length-append (looks_asked so.done) (looks_behind (length (edits_asked so.done)) (look_command firm window ∷ commands_of rest)),
          looks_here firm window (length (edits_asked so.done)) (commands_of rest),
          AllZip-long (IsReported opening (pass_view old) (numbers_of old)) (looks_asked so.done) reports so.run.answered.answered,
        )

    pub next_room : IsLook order → length reports < room
    next_room look = room_for order whole_is look

    pub underway_goes_on : (new : Pass N G) (after : List Report) → HasMade opening order old new reports after
        → IsUnderway client commands new rest after (number + 1) room
    underway_goes_on new after made =
        record {
          done = so.done ++ command_of order ∷ [];
          whole = whole_is ∙ sym (append_assoc so.done (command_of order ∷ []) (commands_of rest));
          run = order_made opening client so.done old new reports so.run order after fit_is.1 made;
          fit = fit_is.0;
          fits = so.fits;
          few = let f : number + length orders < 2 ^ 32 = so.few in omega (arith, f, ap length split, length-append rest (order ∷ []));
        }

    cut_edit : (edit : EditValue) (new : Pass N G) → commands ≡ so.done ++ asks.Put edit ∷ commands_of rest
        → KnowsFull old new → IsCutShort opening client commands new
    cut_edit edit new is full =
        record {
          whose = full.kept.client ∙ so.run.whose;
          full = full.full;
          fewer =
              omega (
                arith,
                ap length full.kept.numbers,
                AllZip-long (StandsAs client (pass_log old)) (numbers_of old) (edits_asked so.done) so.run.answered.edits,
                ap length (ap edits_asked is ∙ edits_append so.done (asks.Put edit ∷ commands_of rest)),
                length-append (edits_asked so.done) (edits_asked (asks.Put edit ∷ commands_of rest)),
              );
        }

    cut_order : (order : Order) (new : Pass N G) → commands ≡ so.done ++ command_of order ∷ commands_of rest
        → IsCutAt order old new cut.FullLog → IsCutShort opening client commands new
    cut_order (Put edit) new is full = cut_edit edit new is full
    cut_order (Look firm window board) new is why = absurd (cc)

    -- a full log cuts the client's part short
    pub cut_short : (new : Pass N G) → IsCutAt order old new cut.FullLog → IsCutShort opening client commands new
    cut_short new at = cut_order order new whole_is at

  pub underway_ends : (client : ℕ) (commands : List Command) (pass : Pass N G) (orders : List Order)
      (reports : List Report) (number room : ℕ) → orders ≡ []
      → IsUnderway client commands pass orders reports number room
      → HasRun opening client commands pass reports
  underway_ends client commands pass orders reports number room none so =
      subst (λ (l : List Command). HasRun opening client l pass reports) (sym (so.whole ∙ ap (λ l. so.done ++ commands_of l) none ∙ append-nil so.done)) so.run
