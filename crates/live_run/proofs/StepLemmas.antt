-- What each call of a client leaves of what was known, and adds to it.
use Rattle.std.proofs.Common.{◌≡◌, ◌<◌, ◌≤◌, ◌+◌, ◌-◌, inl, inr, ℕ, List, [], ◌∷◌, ◌++◌, Bool, Some, true, false, All}
use Rattle.std.proofs.Common.{Contains, length, take, map, slice_get, refl, sym, ◌∙◌, ap, subst, arith}
use Rattle.std.specs.List.{AllZip}
use Rattle.std.proofs.lemmas.List.{take_all}
use Rattle.std.proofs.lemmas.List.Elements.{Contains-append_left}
use Rattle.edit_log.specs.Books.{client_entry}
use Rattle.edit_log.specs.Rows.{IsInside}
use Rattle.edit_log.specs.Touches.{TouchesPlace}
use Rattle.edit_script.specs.declared.script.Command.{Command}
use Rattle.edit_script.specs.declared.script.Command.TheVariants as asks
use Rattle.live_sheet.specs.Edited.{IsCommitted}
use Rattle.live_sheet.specs.Firm.{IsFirmLook, KeepsPass, value_shown}
use Rattle.live_sheet.specs.Looks.{HasLooked, after_reads}
use Rattle.live_sheet.specs.Passes.{client_of, pass_view, pass_log, pass_seen, numbers_of, IsLookOf}
use Rattle.live_sheet.specs.declared.naming.Naming.{Ghosts}
use Rattle.live_sheet.specs.declared.pass.Pass.{Pass}
use Rattle.mark_core.specs.Marks.{IsPrefix, IsLastMark}
use Rattle.mark_core.specs.Views.{with_count}
use Rattle.mark_core.specs.declared.actors.View.{View}
use Rattle.mark_core.specs.declared.words.Finished.{Finished}
use Rattle.mark_core.proofs.Prefixes.{prefix_itself, prefix_length, prefix_more}
use Rattle.mark_words.specs.declared.tables.Doing.{Doing}
use Rattle.sheet_model.specs.Boards.{BoardValue}
use Rattle.sheet_model.specs.Edits.{EditValue, AreHeldBeside, AreWritten, IsFor}
use Rattle.sheet_model.specs.Logs.{after}
use Rattle.sheet_model.specs.Sheets.{SheetValue}
use Rattle.sheet_model.specs.declared.board.Shown.{Shown}
use Rattle.sheet_model.specs.declared.entry.Entry.{Entry}
use Rattle.sheet_model.proofs.ListLemmas.{slice_get-push}
use Rattle.sheet_model.proofs.ListMembers.{all_from, mapped_from}
use Rattle.sheet_refs.specs.Cells.{Position, Corners, IsOrdered, cells_of}
use Rattle.sheet_refs.specs.Sizes.{place_of}
use Rattle.sheet_refs.proofs.Grid.{cells_listed}
use Rattle.sheet_model.specs.declared.report.Report.{Report}
use Rattle.live_run.specs.Client.{HasAddedReport, HasMade, HasMadeEdit, HasRun, HasShownFirmly, IsOrderFor, command_of, look_command}
use Rattle.live_run.specs.Legal.{IsShownValue, LookAsked, edit_asked, edits_asked, looks_behind}
use Rattle.live_run.specs.Told.{HasAnswered, IsTold, StandsAs}
use Rattle.live_run.specs.declared.order.Order.{Order}
use Rattle.live_run.specs.declared.order.Order.TheVariants.{Put, Look}
use Rattle.live_run.proofs.AddLemmas.{behind_look, behind_values, look_more, reported}
use Rattle.live_run.proofs.GrowLemmas.{Grows, edit_more}
use Rattle.live_run.proofs.ReadsLemmas.{IsLooked, all_looked, reads_keep_known, reads_keep_log, reads_keep_reads, reads_keep_seen}
use Rattle.live_run.proofs.ZipLemmas.{zip_map, zip_mapped}

of_prefix : {X : Type 0} (xs ys : List X) → IsPrefix xs ys → (x : X) → Contains xs x → Contains ys x
of_prefix {X} xs ys prefix x has = subst (λ (l : List X). Contains l x) (sym prefix.whole) (Contains-append_left xs prefix.rest x has)

held_for : (sheet : SheetValue) (edit : EditValue) → IsFor sheet edit → AreWritten edit → AreHeldBeside (length sheet.labels) edit
held_for sheet edit for written = λ k d below. record { label = (for k d below).label; written = written k d below }

look_edits : (firm : Bool) (window : Corners) → edit_asked (look_command firm window) ≡ []
look_edits true window = refl
look_edits false window = refl

look_asked : (firm : Bool) (window : Corners) (made : ℕ) → looks_behind made (look_command firm window
    ∷ []) ≡ record { firm = firm; window = window; made = made } ∷ []
look_asked true window made = refl
look_asked false window made = refl

module _ {N : Type 0} {G : Ghosts N} (opening : SheetValue) (client : ℕ) (commands : List Command) (old new : Pass N G)
    (reports : List Report) (before : HasRun opening client commands old reports) where
  committed_grows : (edit : EditValue) (number : ℕ) (log : List Entry) → IsCommitted edit number log old new → Grows (pass_view old) (pass_view new)
  committed_grows edit number log is =
      record {
        log =
            subst (λ (l : List Entry). IsPrefix (pass_log old) l) (sym is.log)
            (prefix_more (pass_log old) log (client_entry (client_of old) edit ∷ []) is.goes_on);
        seen = is.met.seen;
        reads = λ read has. subst (λ (l : List Finished). Contains l read) (sym is.met.reads) has;
        known = of_prefix (pass_view old).known (pass_view new).known is.met.known;
      }

  committed_stands : (edit : EditValue) (number : ℕ) (log : List Entry) → IsCommitted edit number log old new → StandsAs client (pass_log new) number edit
  committed_stands edit number log is =
      let at : number - 1 ≡ length log = let n : number ≡ length log + 1 = is.counted in omega arith in
      ap (λ l. slice_get l (number - 1)) is.log
      ∙ ap (λ i. slice_get (log ++ client_entry (client_of old) edit ∷ []) i) at
      ∙ slice_get-push log (client_entry (client_of old) edit)
      ∙ ap (λ c. Some (client_entry c edit)) before.whose

  -- after an edit
  pub edit_made : (edit : EditValue) → IsFor opening edit → HasMadeEdit opening edit old new
      → HasRun opening client (commands ++ asks.Put edit ∷ []) new reports
  edit_made edit for made =
      let is = made.committed.committed in
      let log : List Entry = made.committed.before in
      let behind : length (pass_log old) < made.number =
      (let n : made.number ≡ length log + 1 = is.counted in omega (arith, prefix_length (pass_log old) log is.goes_on)) in
      record {
        whose = is.whose ∙ before.whose;
        answered = subst (λ (l : List ℕ). HasAnswered opening client (commands ++ asks.Put edit ∷ []) (pass_view new) l reports) (sym is.numbers)
            (edit_more opening (pass_view old) (pass_view new) (committed_grows edit made.number log is) client commands
            (numbers_of old) reports before.answered
            edit made.number is.later behind is.seen (committed_stands edit made.number log is) (held_for opening edit for made.written));
      }

  module _ (window : Corners) (board : BoardValue) (looked : HasLooked opening.sizes window old.seat new.seat board) where
    abbrev begun : View (List Entry)
    begun = with_count (pass_view old) board.number

    view_is : pass_view new ≡ after_reads opening.sizes begun looked.reads
    view_is = ap (λ (d : Doing SheetValue Entry). d.view) looked.doing

    look_grows : Grows (pass_view old) (pass_view new)
    look_grows =
        subst (λ (v : View (List Entry)). Grows (pass_view old) v) (sym view_is)
        (record {
          log = subst (λ (l : List Entry). IsPrefix (pass_log old) l) (sym (reads_keep_log opening.sizes begun looked.reads)) (prefix_itself (pass_log old));
          seen = subst (λ (n : ℕ). pass_seen old ≤ n) (sym (reads_keep_seen opening.sizes begun looked.reads)) looked.covers;
          reads = λ read has. reads_keep_reads opening.sizes begun looked.reads read has;
          known = λ pair has. reads_keep_known opening.sizes begun looked.reads pair has;
        })

    look_seen : board.number ≤ pass_seen new
    look_seen =
        subst (λ (v : View (List Entry)). board.number ≤ v.seen) (sym view_is)
        (subst (λ (n : ℕ). board.number ≤ n) (sym (reads_keep_seen opening.sizes begun looked.reads)) (omega arith))

    look_cells : AllZip (IsLooked opening (pass_view old).known (pass_view new) board.number) (cells_of window) board.cells
    look_cells =
        subst (λ (v : View (List Entry)). AllZip (IsLooked opening (pass_view old).known v board.number) (cells_of window) board.cells) (sym view_is)
        (subst
        (λ (cells : List Position). AllZip (IsLooked opening (pass_view old).known
        (after_reads opening.sizes begun looked.reads) board.number) cells board.cells) looked.of_cells
        (all_looked opening (pass_view old).known board.number begun looked.reads board.cells refl (λ place. omega arith) looked.are_shown))

    look_told : AllZip (IsTold opening (pass_view new) board.number) (cells_of window) board.cells
    look_told =
        zip_map (IsLooked opening (pass_view old).known (pass_view new) board.number)
        (IsTold opening (pass_view new) board.number) (cells_of window) board.cells (λ cell shown _ one. inl one.by)
        look_cells

  -- after a look
  look_made : (window : Corners) (report : Report) → IsInside opening.sizes window → IsOrdered window.head window.tail → report.firm ≡ false
      → IsLookOf opening.sizes window old new report.board → HasRun opening client (commands ++ look_command false window ∷ []) new (reports ++ report ∷ [])
  look_made window report inside ordered plain shown =
      let looked = shown.looked in
      let numbers : List ℕ = numbers_of old in
      let look : LookAsked = record { firm = false; window = window; made = length (edits_asked commands) } in
      let grows = look_grows window report.board looked in
      record {
        whose = shown.kept.client ∙ before.whose;
        answered =
            subst (λ (l : List ℕ). HasAnswered opening client (commands ++ look_command false window
            ∷ []) (pass_view new) l (reports ++ report ∷ [])) (sym shown.kept.numbers)
            (look_more opening (pass_view old) (pass_view new) grows client commands (numbers_of old) reports
            before.answered (look_command false window) look report refl refl
            (reported opening (pass_view old) (pass_view new) grows client commands (numbers_of old) reports
            before.answered report looked.covers looked.told look refl plain looked.window_is inside ordered
            (inl (look_seen window report.board looked)) (look_told window report.board looked) (λ firm. absurd (cc)))
            (behind_look opening (pass_view old) (pass_view new) grows client commands (numbers_of old) reports
            before.answered report looked.covers looked.told window looked.window_is
            (look_cells window report.board looked)));
      }

  module _ (window : Corners) (ordered : IsOrdered window.head window.tail) (room : ℕ) (board : BoardValue)
      (keeps : KeepsPass old new) (firm : IsFirmLook opening window old.seat new.seat room board) where
    firm_grows : Grows (pass_view old) (pass_view new)
    firm_grows =
        record {
          log = keeps.seat.log;
          seen = keeps.seat.seen;
          reads = of_prefix (pass_view old).reads (pass_view new).reads keeps.seat.reads;
          known = of_prefix (pass_view old).known (pass_view new).known keeps.seat.known;
        }

    all_known : take board.number (pass_log new) ≡ pass_log new
    all_known = take_all board.number (pass_log new) (let n : board.number ≡ length (pass_log new) = firm.shows.number_is in omega arith)

    one_known : (cell : Position) → Contains (cells_of window) cell
        → IsTold opening (pass_view new) board.number cell (value_shown (after opening (pass_log new)) cell)
    one_known cell there =
        let (mark, clean) = firm.known cell ((cells_listed window ordered cell).0 there) in
        inr (record {
          within = let n : board.number ≡ length (pass_log new) = firm.shows.number_is in omega arith;
          shown_is = ap (λ l. value_shown (after opening l) cell) (sym all_known);
          mark = mark;
          known = clean.known;
          last = subst (λ (l : List Entry). IsLastMark (TouchesPlace opening) l (place_of opening.sizes cell) mark) (sym all_known) clean.last;
        })

    firm_told : AllZip (IsTold opening (pass_view new) board.number) (cells_of window) board.cells
    firm_told =
        subst (λ (l : List Shown). AllZip (IsTold opening (pass_view new) board.number) (cells_of window) l) (sym firm.shows.cells)
        (zip_mapped (IsTold opening (pass_view new) board.number) (value_shown (after opening (pass_log new))) (cells_of window) one_known)

    value_is : (shown : Shown) → Contains (map (value_shown (after opening (pass_log new))) (cells_of window)) shown → IsShownValue shown
    value_is shown there =
        let (cell, _, is) = mapped_from (value_shown (after opening (pass_log new))) (cells_of window) shown there in
        subst IsShownValue is tt

    firm_values : All IsShownValue board.cells
    firm_values =
        subst (λ (l : List Shown). All IsShownValue l) (sym firm.shows.cells)
        (all_from IsShownValue (map (value_shown (after opening (pass_log new))) (cells_of window)) value_is)

    firm_covers_log : length (pass_log old) ≤ board.number
    firm_covers_log =
        let n : board.number ≡ length (pass_log new) = firm.shows.number_is in
        omega (arith, prefix_length (pass_log old) (pass_log new) keeps.seat.log)

  -- after a firm look
  firm_made : (window : Corners) (report : Report) → IsInside opening.sizes window → IsOrdered window.head window.tail → report.firm ≡ true
      → HasShownFirmly opening window old new report.board → HasRun opening client (commands ++ look_command true window ∷ []) new (reports ++ report ∷ [])
  firm_made window report inside ordered is_firm shown =
      let look : LookAsked = record { firm = true; window = window; made = length (edits_asked commands) } in
      let grows = firm_grows window ordered shown.room report.board shown.keeps shown.firm in
      let told = firm_covers_log window ordered shown.room report.board shown.keeps shown.firm in
      let values = firm_values window ordered shown.room report.board shown.keeps shown.firm in
      record {
        whose = shown.keeps.office.client ∙ before.whose;
        answered =
            subst (λ (l : List ℕ). HasAnswered opening client (commands ++ look_command true window
            ∷ []) (pass_view new) l (reports ++ report ∷ [])) (sym shown.keeps.office.numbers)
            (look_more opening (pass_view old) (pass_view new) grows client commands (numbers_of old) reports
            before.answered (look_command true window) look report refl refl
            (reported opening (pass_view old) (pass_view new) grows client commands (numbers_of old) reports
            before.answered report shown.firm.covers told look refl is_firm shown.firm.shows.window_is inside
            ordered
            (inr (let n : report.board.number ≡ length (pass_log new) = shown.firm.shows.number_is in omega arith))
            (firm_told window ordered shown.room report.board shown.keeps shown.firm) (λ firm. values))
            (behind_values opening (pass_view old) (pass_view new) grows client commands (numbers_of old) reports
            before.answered report shown.firm.covers told values));
      }

  report_made : (firm : Bool) (window : Corners) (after : List Report) → IsInside opening.sizes window
      → HasAddedReport opening firm window old new reports after
      → HasRun opening client (commands ++ look_command firm window ∷ []) new after
  report_made true window after inside made =
      subst (λ (l : List Report). HasRun opening client (commands ++ look_command true window ∷ []) new l)
      (sym made.added) (firm_made window made.report inside made.ordered made.firm_is made.shown)
  report_made false window after inside made =
      subst (λ (l : List Report). HasRun opening client (commands ++ look_command false window ∷ []) new l)
      (sym made.added) (look_made window made.report inside made.ordered made.firm_is made.shown)

  -- after an order
  pub order_made : (order : Order) (after : List Report) → IsOrderFor opening order
      → HasMade opening order old new reports after → HasRun opening client (commands ++ command_of order
      ∷ []) new after
  order_made (Put edit) after for made =
      subst (λ (l : List Report). HasRun opening client (commands ++ asks.Put edit ∷ []) new l) (sym made.1)
      (edit_made edit for made.0)
  order_made (Look firm window board) after for made = report_made firm window after for.0 made
