-- A client's part of a run that has ended, by what its view tells, over the log of the closed sheet.
use Rattle.std.proofs.Common.{◌≡◌, ◌<◌, ◌≤◌, ◌+◌, ◌==◌, ◌⊎◌, ⊎_elim, inl, inr, ℕ, List, Some, IsTrue, All, AllPairs}
use Rattle.std.proofs.Common.{Contains, length, take, drop, slice_get, refl, sym, ◌∙◌, ap, subst, arith}
use Rattle.std.specs.List.{AllZip}
use Rattle.std.specs.Prelude.{filter}
use Rattle.std.proofs.lemmas.Bool.{cases_lt}
use Rattle.std.proofs.lemmas.List.{length-take-le}
use Rattle.std.proofs.lemmas.Slice.Zip.{AllZip-long}
use Rattle.edit_log.specs.Touches.{TouchesPlace}
use Rattle.edit_script.specs.declared.script.Command.{Command}
use Rattle.live_sheet.specs.Accepted.{AreAccepted}
use Rattle.live_sheet.specs.Closed.{IsLegalOver}
use Rattle.live_sheet.specs.Openings.{opening_codes}
use Rattle.mark_core.specs.Marks.{IsPrefix, IsLastMark, IsTouched}
use Rattle.mark_core.specs.declared.actors.View.{View}
use Rattle.mark_core.specs.declared.words.Finished.{Finished}
use Rattle.mark_core.proofs.Prefixes.{prefix_length, take-prefix, take_is_prefix, touched_in_prefix}
use Rattle.sheet_model.specs.Logs.{AreHeld}
use Rattle.sheet_model.specs.Sheets.{SheetValue, IsSheet}
use Rattle.sheet_model.specs.declared.board.Shown.{Shown}
use Rattle.sheet_model.specs.declared.board.Shown.TheVariants.{Value, Stale, Newer}
use Rattle.sheet_model.specs.declared.entry.Entry.{Entry}
use Rattle.sheet_refs.specs.Cells.{Position, Corners, cells_of}
use Rattle.sheet_refs.specs.Sizes.{is_inside, place_of}
use Rattle.sheet_refs.proofs.Grid.{cells_listed}
use Rattle.sheet_refs.proofs.Places.{first_cell}
use Rattle.sheet_model.specs.Boards.{IsFull}
use Rattle.sheet_model.specs.declared.report.Report.{Report}
use Rattle.live_run.specs.Legal.{Answers, HasFollowed, IsLegalReport, IsTouchedLater, LookAsked, MayShow, Shows}
use Rattle.live_run.specs.Legal.{StaysCurrent, edits_asked, edits_by, looks_asked, numbers_by, WaitsForLast}
use Rattle.live_run.specs.Told.{HasAnswered, IsBehind, IsMarkAt, IsMarkedSince, IsReported, IsTold, StandsAs}
use Rattle.live_run.proofs.GrowLemmas.{stands_still}
use Rattle.live_run.proofs.NumberLemmas.{all_own}
use Rattle.live_run.proofs.ShownLemmas.{told_may_show}
use Rattle.live_run.proofs.TouchedLemmas.{touched_mark}
use Rattle.live_run.proofs.ZipLemmas.{stands_in, zip_at, zip_first, zip_map, zip_right}

-- the client's edits in the log are those of its commands, under the numbers that the pass has
pub edits_are : (opening : SheetValue) (client : ℕ) (commands : List Command) (view : View (List Entry))
    (numbers : List ℕ) (reports : List Report) (log : List Entry)
    → HasAnswered opening client commands view numbers reports → IsPrefix view.log log → AreAccepted client log numbers
    → length (filter (λ (entry : Entry). entry.client == client) log) ≡ length numbers
    → (numbers ≡ numbers_by client log) × (edits_by client log ≡ edits_asked commands)
edits_are opening client commands view numbers reports log has known accepted whole =
    all_own client log numbers (edits_asked commands) (λ k d below. (accepted.each k d below).counted) accepted.rise
    (zip_map (StandsAs client view.log) (StandsAs client log) numbers (edits_asked commands)
    (λ number edit _. stands_still client view.log log number edit known) has.edits)
    (omega (arith, whole))

module _ (opening : SheetValue) (log : List Entry) (view : View (List Entry)) (known : IsPrefix view.log log)
    (legal : (read : Finished) (word : ℕ) → Contains view.reads read → read.word ≡ Some word → IsLegalOver opening (opening_codes opening) log read word) where
  longer : length view.log ≤ length log
  longer = prefix_length view.log log known

  told_within : (number : ℕ) (cell : Position) (shown : Shown) → IsTold opening view number cell shown → number ≤ length log
  told_within number cell shown (inl by) = subst (λ n. n ≤ length log) by.number_is (legal by.read by.word by.kept by.word_is).within
  told_within number cell shown (inr by) = let w : number ≤ length view.log = by.within in omega (arith, longer)

  -- a report's number is within the log, since its window has a cell
  within : (numbers : List ℕ) (look : LookAsked) (report : Report) → IsReported opening view numbers look report → report.board.number ≤ length log
  within numbers look report is =
      let (shown, told) = zip_first (IsTold opening view report.board.number) (cells_of look.window) report.board.cells
      look.window.head is.cells (first_cell look.window is.ordered) in
      told_within report.board.number look.window.head shown told

  -- the last mark of a place at a number
  mark_at : (number place mark : ℕ) → IsMarkAt opening view number place mark → IsLastMark (TouchesPlace opening) (take number log) place mark
  mark_at number place mark (inl by) =
      let last = (legal by.read by.word by.kept by.word_is).last by.word (by.computed, subst (λ n. by.read.mark ≤ n) (sym by.number_is) by.within, refl) in
      subst (λ (m : ℕ). IsLastMark (TouchesPlace opening) (take number log) place m) by.mark_is
      (subst (λ (p : ℕ). IsLastMark (TouchesPlace opening) (take number log) p by.read.mark) by.place_is
      (subst (λ (n : ℕ). IsLastMark (TouchesPlace opening) (take n log) by.read.place by.read.mark) by.number_is last))
  mark_at number place mark (inr by) =
      subst (λ (l : List Entry). IsLastMark (TouchesPlace opening) l place mark)
      (sym (take-prefix view.log log number known by.within)) by.last

  -- a cell of a report's window is one of the sheet
  shows_inside : (numbers : List ℕ) (look : LookAsked) (report : Report) (cell : Position) (shown : Shown)
      → IsReported opening view numbers look report → Shows report cell shown
      → IsTrue (is_inside opening.sizes cell)
  shows_inside numbers look report cell shown is shows =
      is.inside cell ((cells_listed look.window is.ordered cell).0
      (stands_in (cells_of look.window) shows.place cell (ap (λ (w : Corners). slice_get (cells_of w) shows.place) (sym is.window_is) ∙ shows.cell_is)))

  -- a read past its floor shows a mark past the last one
  past_last : (number : ℕ) (cell : Position) (mark : ℕ) (since : IsMarkedSince opening view number cell mark) → since.last < mark
  past_last number cell mark since =
      let is : since.read.mark ≡ mark = since.mark_is in
      let above : since.last + 1 ≤ since.read.floor = since.floor in
      ⊎_elim (λ met. omega (arith, met)) (λ computed. absurd (since.stale (computed.1 ∙ sym computed.0)))
      (legal since.read since.word since.kept since.word_is).floor

  -- so it is past the earlier number
  past_number : (number : ℕ) (cell : Position) (mark : ℕ) → IsTrue (is_inside opening.sizes cell) → number ≤ length log
      → IsMarkedSince opening view number cell mark
      → (1 ≤ mark → IsTouched (TouchesPlace opening) log (place_of opening.sizes cell) mark) → number < mark
  past_number number cell mark inside le since touched =
      let last = mark_at number (place_of opening.sizes cell) since.last since.at in
      let past : since.last < mark = past_last number cell mark since in
      ⊎_elim (λ lt. lt)
      (λ (covered : mark ≤ number).
      let long : length (take number log) ≡ number = length-take-le number log le in
      let within_front : mark ≤ length (take number log) = omega (arith, covered) in
      absurd (last.none_later mark past within_front
      (touched_in_prefix (TouchesPlace opening) (take number log) log (place_of opening.sizes cell) mark
      (take_is_prefix number log) within_front (touched (omega (arith, past))))))
      (cases_lt number mark)

  stale_past : (earlier later : ℕ) (cell : Position) (mark : ℕ) → IsTrue (is_inside opening.sizes cell)
      → earlier ≤ length log → earlier ≤ later → IsMarkedSince opening view earlier cell mark
      → WaitsForLast opening log later cell mark ⊎ IsTouchedLater opening log later cell mark → earlier < mark
  stale_past earlier later cell mark inside le rises since (inl waits) =
      past_number earlier cell mark inside le since (λ some. touched_mark opening log cell inside mark (waits.last.touched some))
  stale_past earlier later cell mark inside le rises since (inr touched) = omega (arith, rises, touched.later)

  module _ (is : IsSheet opening) (held : AreHeld (length opening.labels) log) (numbers : List ℕ) where
    legal_report : (look : LookAsked) (report : Report) → IsReported opening view numbers look report → IsLegalReport opening log report
    legal_report look report reported =
        record {
          cells = subst (λ (w : Corners). AllZip (MayShow opening log report.board.number) (cells_of w) report.board.cells) (sym reported.window_is)
              (zip_map (IsTold opening view report.board.number) (MayShow opening log report.board.number) (cells_of look.window) report.board.cells
              (λ cell shown there told.
              told_may_show opening log cell
              (reported.inside cell ((cells_listed look.window reported.ordered cell).0 there)) is held
              report.board.number view known legal shown told)
              reported.cells);
          values = reported.values;
        }

    -- what a report shows may be shown
    may_show_there : (report : Report) (cell : Position) (shown : Shown) → IsLegalReport opening log report
        → Shows report cell shown → MayShow opening log report.board.number cell shown
    may_show_there report cell shown legal_is shows =
        zip_at (MayShow opening log report.board.number) (cells_of report.board.window) report.board.cells shows.place
        cell shown legal_is.cells shows.cell_is shows.shown_is

    stays_current : (look : LookAsked) (earlier later : Report) → IsReported opening view numbers look earlier
        → IsLegalReport opening log later → IsBehind opening view earlier later
        → StaysCurrent earlier later
    stays_current look earlier later reported legal_is behind =
        record {
          rises = behind.rises;
          stale = λ cell value mark before now.
              stale_past earlier.board.number later.board.number cell mark (shows_inside numbers look earlier cell
              (Value value) reported before) (within numbers look earlier reported) behind.rises
              (behind.stale cell value mark before now) (may_show_there later cell (Stale mark) legal_is now);
          newer = λ cell value mark before now.
              let touched : IsTouchedLater opening log later.board.number cell mark = may_show_there later cell (Newer mark) legal_is now in
              omega (arith, behind.rises, touched.later);
        }

    module _ (client : ℕ) (commands : List Command) (reports : List Report) (has : HasAnswered opening client commands view numbers reports) where
      abbrev IsOneReported : Report → Type 0
      IsOneReported report = (look : LookAsked) × IsReported opening view numbers look report

      all_reported : All IsOneReported reports
      all_reported = zip_right (IsReported opening view numbers) IsOneReported (looks_asked commands) reports (λ look report one. (look, one)) has.answered

      all_legal : All (IsLegalReport opening log) reports
      all_legal = zip_right (IsReported opening view numbers) (IsLegalReport opening log) (looks_asked commands) reports legal_report has.answered

      all_current : AllPairs StaysCurrent reports
      all_current = λ i j d lt below.
          let (look, one) = all_reported i d (omega (arith, lt, below)) in
          stays_current look _ _ one (all_legal j d below) (has.behind i j d lt below)

      -- the reports of the client have something of each cell
      pub all_full : All (λ (report : Report). IsFull report.board) reports
      all_full =
          zip_right (IsReported opening view numbers) (λ (report : Report). IsFull report.board) (looks_asked commands) reports
          (λ look report one.
          AllZip-long (IsTold opening view report.board.number) (cells_of look.window) report.board.cells one.cells
          ∙ ap (λ (w : Corners). length (cells_of w)) (sym one.window_is))
          has.answered

      answers : numbers ≡ numbers_by client log → (look : LookAsked) (report : Report)
          → IsReported opening view numbers look report → Answers client log look report
      answers same look report one =
          record {
            firm_is = one.firm_is;
            window_is = one.window_is;
            within = within numbers look report one;
            covers = subst (λ (l : List ℕ). All (λ own. own ≤ report.board.number) (take look.made l)) same one.covers;
            precedes = subst (λ (l : List ℕ). All (λ own. report.board.number < own) (drop look.made l)) same one.precedes;
          }

      pub followed : (numbers ≡ numbers_by client log) × (edits_by client log ≡ edits_asked commands) → HasFollowed opening log client commands reports
      followed own =
          record {
            edits = own.1;
            answered = zip_map (IsReported opening view numbers) (Answers client log) (looks_asked commands) reports
                (λ look report _ one. answers own.0 look report one) has.answered;
            legal = all_legal;
            current = all_current;
          }
