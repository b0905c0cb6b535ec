-- What is known of reports is still known by a view that has learned more.
use Rattle.std.proofs.Common.{◌≡◌, ◌<◌, ◌≤◌, ◌-◌, ◌⊎◌, ⊎_elim, inl, inr, ℕ, List, [], ◌∷◌, ◌++◌, All, AllPairs}
use Rattle.std.proofs.Common.{Contains, length, take, drop, slice_get, sym, ◌∙◌, ap, subst, arith, length-append}
use Rattle.std.specs.List.{AllZip}
use Rattle.std.proofs.lemmas.List.{take-append-le, drop-append-le, append-nil}
use Rattle.std.proofs.lemmas.List.Elements.{All-append, All-push}
use Rattle.edit_log.specs.Books.{client_entry}
use Rattle.edit_log.specs.Touches.{TouchesPlace}
use Rattle.edit_script.specs.declared.script.Command.{Command}
use Rattle.edit_script.specs.declared.script.Command.TheVariants as asks
use Rattle.live_sheet.specs.Firm.{value_shown}
use Rattle.mark_core.specs.Marks.{IsPrefix, IsLastMark}
use Rattle.mark_core.specs.declared.actors.View.{View}
use Rattle.mark_core.specs.declared.words.Finished.{Finished}
use Rattle.mark_core.specs.declared.words.Known.{Known}
use Rattle.mark_core.proofs.Prefixes.{prefix_length, take-prefix}
use Rattle.sheet_refs.specs.Cells.{Position, cells_of}
use Rattle.sheet_refs.specs.Sizes.{place_of}
use Rattle.sheet_model.specs.Edits.{EditValue, AreHeldBeside}
use Rattle.sheet_model.specs.Logs.{after}
use Rattle.sheet_model.specs.Sheets.{SheetValue}
use Rattle.sheet_model.specs.declared.board.Shown.{Shown}
use Rattle.sheet_model.specs.declared.entry.Entry.{Entry}
use Rattle.sheet_model.proofs.ListLemmas.{slice_get-append}
use Rattle.sheet_model.specs.declared.report.Report.{Report}
use Rattle.live_run.specs.Legal.{LookAsked, edits_asked, looks_asked}
use Rattle.live_run.specs.Told.{HasAnswered, IsBehind, IsKnownBy, IsMarkAt, IsMarkedSince, IsReadBy, IsReported, IsTold, StandsAs}
use Rattle.live_run.proofs.CommandLemmas.{edits_push, looks_more}
use Rattle.live_run.proofs.ZipLemmas.{zip_map, zip_push}

-- a view that has lost nothing
pub record Grows (old new : View (List Entry)) : Type 0 where
  pub log : IsPrefix old.log new.log
  pub seen : old.seen ≤ new.seen
  pub reads : (read : Finished) → Contains old.reads read → Contains new.reads read
  pub known : (pair : Known) → Contains old.known pair → Contains new.known pair

-- the entry with a number in a longer log
pub stands_still : (client : ℕ) (old new : List Entry) (number : ℕ) (edit : EditValue) → IsPrefix old new
    → StandsAs client old number edit → StandsAs client new number edit
stands_still client old new number edit longer stands =
    ap (λ l. slice_get l (number - 1)) longer.whole ∙ slice_get-append old longer.rest (number - 1) (client_entry client edit) stands

module _ (opening : SheetValue) (old new : View (List Entry)) (grows : Grows old new) where
  read_still : (number : ℕ) (cell : Position) (shown : Shown) → IsReadBy opening old number cell shown → IsReadBy opening new number cell shown
  read_still number cell shown by =
      record {
        read = by.read;
        word = by.word;
        kept = grows.reads by.read by.kept;
        word_is = by.word_is;
        number_is = by.number_is;
        place_is = by.place_is;
        shown_is = by.shown_is;
        known = λ computed. grows.known (record { place = place_of opening.sizes cell; mark = by.read.mark }) (by.known computed);
      }

  first_still : (number : ℕ) → number ≤ length old.log → take number old.log ≡ take number new.log
  first_still number within = sym (take-prefix old.log new.log number grows.log within)

  longer : length old.log ≤ length new.log
  longer = prefix_length old.log new.log grows.log

  known_still : (number : ℕ) (cell : Position) (shown : Shown) → IsKnownBy opening old number cell shown → IsKnownBy opening new number cell shown
  known_still number cell shown by =
      record {
        within = let w : number ≤ length old.log = by.within in omega (arith, longer);
        shown_is = by.shown_is ∙ ap (λ l. value_shown (after opening l) cell) (first_still number by.within);
        mark = by.mark;
        known = grows.known (record { place = place_of opening.sizes cell; mark = by.mark }) by.known;
        last = subst (λ (l : List Entry). IsLastMark (TouchesPlace opening) l (place_of opening.sizes cell) by.mark) (first_still number by.within) by.last;
      }

  pub told_still : (number : ℕ) (cell : Position) (shown : Shown) → IsTold opening old number cell shown → IsTold opening new number cell shown
  told_still number cell shown (inl by) = inl (read_still number cell shown by)
  told_still number cell shown (inr by) = inr (known_still number cell shown by)

  pub mark_at_still : (number place mark : ℕ) → IsMarkAt opening old number place mark → IsMarkAt opening new number place mark
  mark_at_still number place mark (inl by) =
      inl (record {
        read = by.read;
        word = by.word;
        kept = grows.reads by.read by.kept;
        word_is = by.word_is;
        number_is = by.number_is;
        place_is = by.place_is;
        mark_is = by.mark_is;
        computed = by.computed;
        within = by.within;
      })
  mark_at_still number place mark (inr by) =
      inr (record {
        within = let w : number ≤ length old.log = by.within in omega (arith, longer);
        last = subst (λ (l : List Entry). IsLastMark (TouchesPlace opening) l place mark) (first_still number by.within) by.last;
      })

  since_still : (number : ℕ) (cell : Position) (mark : ℕ) → IsMarkedSince opening old number cell mark → IsMarkedSince opening new number cell mark
  since_still number cell mark since =
      record {
        last = since.last;
        at = mark_at_still number (place_of opening.sizes cell) since.last since.at;
        read = since.read;
        word = since.word;
        kept = grows.reads since.read since.kept;
        word_is = since.word_is;
        mark_is = since.mark_is;
        stale = since.stale;
        floor = since.floor;
      }

  behind_still : (earlier later : Report) → IsBehind opening old earlier later → IsBehind opening new earlier later
  behind_still earlier later behind =
      record {
        rises = behind.rises;
        stale = λ cell value mark before now. since_still earlier.board.number cell mark
            (behind.stale cell value mark before now);
      }

  pub seen_still : (number : ℕ) → (number ≤ old.seen) ⊎ (number ≤ length old.log) → (number ≤ new.seen) ⊎ (number ≤ length new.log)
  seen_still number (inl seen) = inl (let s : old.seen ≤ new.seen = grows.seen in omega arith)
  seen_still number (inr within) = inr (omega (arith, longer))

  -- a report, where the client has got edits past its number alone
  pub reported_still : (numbers more : List ℕ) (look : LookAsked) (report : Report)
      → All (λ own. report.board.number < own) more → IsReported opening old numbers look report
      → IsReported opening new (numbers ++ more) look report
  reported_still numbers more look report past is =
      record {
        firm_is = is.firm_is;
        window_is = is.window_is;
        inside = is.inside;
        ordered = is.ordered;
        seen = seen_still report.board.number is.seen;
        made = let m : look.made ≤ length numbers = is.made in omega (arith, length-append numbers more);
        covers = subst (λ (l : List ℕ). All (λ own. own ≤ report.board.number) l) (sym (take-append-le look.made numbers more is.made)) is.covers;
        precedes = subst (λ (l : List ℕ). All (λ own. report.board.number < own) l) (sym (drop-append-le look.made numbers more is.made))
            (All-append (λ own. report.board.number < own) (drop look.made numbers) more is.precedes past);
        cells = zip_map (IsTold opening old report.board.number) (IsTold opening new report.board.number) (cells_of look.window) report.board.cells
            (λ cell shown _. told_still report.board.number cell shown) is.cells;
        values = is.values;
      }

  module _ (client : ℕ) (commands : List Command) (numbers : List ℕ) (reports : List Report)
      (before : HasAnswered opening client commands old numbers reports) where
    pub still_stand : AllZip (StandsAs client new.log) numbers (edits_asked commands)
    still_stand = zip_map (StandsAs client old.log) (StandsAs client new.log) numbers (edits_asked commands)
        (λ number edit _. stands_still client old.log new.log number edit grows.log) before.edits

    pub still_own : All (λ own. own ≤ new.seen) numbers
    still_own = λ k d below. let o = before.own k d below in omega (arith, o, grows.seen)

    pub still_behind : AllPairs (IsBehind opening new) reports
    still_behind = λ i j d lt below. behind_still _ _ (before.behind i j d lt below)

    not_past : (number : ℕ) (look : LookAsked) (report : Report) → old.seen < number → length old.log < number
        → IsReported opening old numbers look report → report.board.number < number
    not_past number look report above behind is = ⊎_elim (λ seen. omega (arith, above, seen)) (λ within. omega (arith, behind, within)) is.seen

    -- after an edit
    pub edit_more : (edit : EditValue) (number : ℕ) → old.seen < number → length old.log < number → number ≤ new.seen → StandsAs client new.log number edit
        → AreHeldBeside (length opening.labels) edit → HasAnswered opening client (commands ++ asks.Put edit ∷ []) new (numbers ++ number ∷ []) reports
    edit_more edit number above behind seen stands held =
        record {
          edits = subst (λ (l : List EditValue). AllZip (StandsAs client new.log) (numbers ++ number ∷ []) l) (sym (edits_push commands (asks.Put edit)))
              (zip_push (StandsAs client new.log) numbers (edits_asked commands) number edit still_stand stands);
          own = All-push (λ own. own ≤ new.seen) numbers number still_own seen;
          held = subst (λ (l : List EditValue). All (AreHeldBeside (length opening.labels)) l) (sym (edits_push commands (asks.Put edit)))
              (All-push (AreHeldBeside (length opening.labels)) (edits_asked commands) edit before.held held);
          answered = subst (λ (l : List LookAsked). AllZip (IsReported opening new (numbers ++ number ∷ [])) l reports)
              (sym (looks_more commands (asks.Put edit) ∙ append-nil (looks_asked commands)))
              (zip_map (IsReported opening old numbers) (IsReported opening new (numbers ++ number ∷ [])) (looks_asked commands) reports
              (λ look report _ is. reported_still numbers (number ∷ []) look report (past look report is) is) before.answered);
          behind = still_behind;
        }
      where
        past : (look : LookAsked) (report : Report) → IsReported opening old numbers look report → All (λ own. report.board.number < own) (number ∷ [])
        past look report is = All-push (λ own. report.board.number < own) [] number (λ k d below. absurd (omega arith))
            (not_past number look report above behind is)
