-- One report more.
use Rattle.std.proofs.Common.{◌≡◌, ◌<◌, ◌≤◌, ◌+◌, ◌⊎◌, ⊎_elim, inl, inr, ℕ, List, [], ◌∷◌, ◌++◌, true, All, Contains}
use Rattle.std.proofs.Common.{length, get_or, slice_get, refl, sym, ◌∙◌, ap, subst, arith}
use Rattle.std.specs.List.{AllZip}
use Rattle.std.proofs.lemmas.List.{append-nil, take_all, drop_all}
use Rattle.std.proofs.lemmas.List.Elements.{All-nil, All-contains, All-contains_itself}
use Rattle.std.proofs.lemmas.List.Quantifiers.{all_pairs_push}
use Rattle.std.proofs.lemmas.Slice.Zip.{AllZip-long}
use Rattle.edit_log.specs.Rows.{IsInside}
use Rattle.edit_script.specs.declared.script.Command.{Command}
use Rattle.mark_core.specs.Views.{floor_of}
use Rattle.mark_core.specs.declared.actors.View.{View}
use Rattle.sheet_model.specs.Edits.{EditValue, AreHeldBeside}
use Rattle.sheet_model.specs.Sheets.{SheetValue}
use Rattle.sheet_model.specs.declared.board.Shown.{Shown}
use Rattle.sheet_model.specs.declared.board.Shown.TheVariants.{Value, Stale}
use Rattle.sheet_model.specs.declared.entry.Entry.{Entry}
use Rattle.sheet_refs.specs.Cells.{Position, Corners, IsOrdered, cells_of}
use Rattle.sheet_refs.specs.Sizes.{place_of}
use Rattle.value_core.specs.declared.value.Value.{Value as CellValue}
use Rattle.sheet_model.specs.declared.report.Report.{Report}
use Rattle.live_run.specs.Legal.{LookAsked, IsShownValue, Shows, edit_asked, edits_asked, looks_asked, looks_behind}
use Rattle.live_run.specs.Told.{HasAnswered, IsBehind, IsMarkAt, IsMarkedSince, IsReported, IsTold, StandsAs}
use Rattle.live_run.proofs.CommandLemmas.{edits_push, looks_more}
use Rattle.live_run.proofs.GrowLemmas.{Grows, mark_at_still, reported_still, still_behind, still_own, still_stand}
use Rattle.live_run.proofs.ReadsLemmas.{IsLooked, floor_above, stale_means, value_means}
use Rattle.live_run.proofs.ZipLemmas.{stands_in, zip_at, zip_beside, zip_map, zip_push}

module _ (opening : SheetValue) (old new : View (List Entry)) (grows : Grows old new) where
  module _ (client : ℕ) (commands : List Command) (numbers : List ℕ) (reports : List Report) (before : HasAnswered opening client commands old numbers reports)
      (command : Command) (look : LookAsked) (report : Report) where
    -- after a look
    pub look_more : edit_asked command ≡ [] → looks_behind (length (edits_asked commands)) (command ∷ []) ≡ look ∷ []
        → IsReported opening new numbers look report → ((earlier : Report) → Contains reports earlier → IsBehind opening new earlier report)
        → HasAnswered opening client (commands ++ command ∷ []) new numbers (reports ++ report ∷ [])
    look_more no_edit is_look reported behind =
        let same : edits_asked (commands ++ command ∷ []) ≡ edits_asked commands =
        edits_push commands command ∙ ap (λ l. edits_asked commands ++ l) no_edit ∙ append-nil (edits_asked commands) in
        record {
          edits = subst (λ (l : List EditValue). AllZip (StandsAs client new.log) numbers l) (sym same)
              (still_stand opening old new grows client commands numbers reports before);
          own = still_own opening old new grows client commands numbers reports before;
          held = subst (λ (l : List EditValue). All (AreHeldBeside (length opening.labels)) l) (sym same) before.held;
          answered = subst (λ (l : List LookAsked). AllZip (IsReported opening new numbers) l (reports ++ report ∷ []))
              (sym (looks_more commands command ∙ ap (λ l. looks_asked commands ++ l) is_look))
              (zip_push (IsReported opening new numbers) (looks_asked commands) reports look report
              (zip_map (IsReported opening old numbers) (IsReported opening new numbers) (looks_asked commands) reports
              (λ one shown _ is. subst (λ (l : List ℕ). IsReported opening new l one shown) (append-nil numbers)
              (reported_still opening old new grows numbers [] one shown (All-nil (λ own. shown.board.number < own))
              is))
              before.answered) reported);
          behind = all_pairs_push (IsBehind opening new) reports report (still_behind opening old new grows client commands numbers reports before)
              (λ k d below. behind (get_or reports k d) (All-contains_itself reports k d below));
        }

  -- a cell that shows a value in an earlier report has a last mark there that the view knows
  record HasKnownMark (number : ℕ) (cell : Position) : Type 0 where
    mark : ℕ
    known : Contains old.known (record { place = place_of opening.sizes cell; mark = mark })
    at : IsMarkAt opening old number (place_of opening.sizes cell) mark

  known_mark : (number : ℕ) (cell : Position) (value : CellValue) → IsTold opening old number cell (Value value) → HasKnownMark number cell
  known_mark number cell value (inl by) =
      let means = value_means number (record { clean = by.read.clean; word = by.word; mark = by.read.mark }) value by.shown_is in
      record {
        mark = by.read.mark;
        known = by.known means.0;
        at = inl (record {
          read = by.read;
          word = by.word;
          kept = by.kept;
          word_is = by.word_is;
          number_is = by.number_is;
          place_is = by.place_is;
          mark_is = refl;
          computed = means.0;
          within = means.1;
        });
      }
  known_mark number cell value (inr by) = record { mark = by.mark; known = by.known; at = inr (record { within = by.within; last = by.last }) }

  told_at : (numbers : List ℕ) (look : LookAsked) (report : Report) (cell : Position) (shown : Shown)
      → IsReported opening old numbers look report → Shows report cell shown
      → IsTold opening old report.board.number cell shown
  told_at numbers look report cell shown is shows =
      zip_at (IsTold opening old report.board.number) (cells_of look.window) report.board.cells shows.place cell shown is.cells
      (ap (λ (w : Corners). slice_get (cells_of w) shows.place) (sym is.window_is) ∙ shows.cell_is) shows.shown_is

  -- a read whose floor is that of what the view knew, and which shows a mark as stale
  marked_since : (number later : ℕ) (cell : Position) (mark : ℕ) → HasKnownMark number cell
      → IsLooked opening old.known new later cell (Stale mark) → IsMarkedSince opening new number cell mark
  marked_since number later cell mark before looked =
      let by = looked.by in
      let means = stale_means later (record { clean = by.read.clean; word = by.word; mark = by.read.mark }) mark by.shown_is in
      record {
        last = before.mark;
        at = mark_at_still opening old new grows number (place_of opening.sizes cell) before.mark before.at;
        read = by.read;
        word = by.word;
        kept = by.kept;
        word_is = by.word_is;
        mark_is = means.0;
        stale = means.1;
        floor =
            let above : before.mark + 1 ≤ floor_of old.known (place_of opening.sizes cell) =
            floor_above old.known (place_of opening.sizes cell) before.mark before.known in
            let low : floor_of old.known (place_of opening.sizes cell) ≤ by.read.floor = looked.floor in
            omega arith;
      }

  not_above : (number later : ℕ) → old.seen ≤ later → length old.log ≤ later → (number ≤ old.seen) ⊎ (number ≤ length old.log) → number ≤ later
  not_above number later covers told seen = ⊎_elim (λ s. omega (arith, covers, s)) (λ w. omega (arith, told, w)) seen

  module _ (client : ℕ) (commands : List Command) (numbers : List ℕ) (reports : List Report)
      (before : HasAnswered opening client commands old numbers reports) (report : Report)
      (covers : old.seen ≤ report.board.number) (told : length old.log ≤ report.board.number) where
    earlier_is : (earlier : Report) → Contains reports earlier → (look : LookAsked) × IsReported opening old numbers look earlier
    earlier_is earlier there = zip_beside (IsReported opening old numbers) (looks_asked commands) reports earlier before.answered there

    rises : (earlier : Report) → Contains reports earlier → earlier.board.number ≤ report.board.number
    rises earlier there = let (look, is) = earlier_is earlier there in not_above earlier.board.number report.board.number covers told is.seen

    -- each earlier report stands so to one whose cells were looked at
    pub behind_look : (window : Corners) → report.board.window ≡ window
        → AllZip (IsLooked opening old.known new report.board.number) (cells_of window) report.board.cells
        → (earlier : Report) → Contains reports earlier → IsBehind opening new earlier report
    behind_look window window_is looked earlier there =
        record {
          rises = rises earlier there;
          stale = λ cell value mark then now.
              let (look, is) = earlier_is earlier there in
              marked_since earlier.board.number report.board.number cell mark
              (known_mark earlier.board.number cell value (told_at numbers look earlier cell (Value value) is then))
              (zip_at (IsLooked opening old.known new report.board.number) (cells_of window) report.board.cells now.place cell (Stale mark) looked
              (ap (λ (w : Corners). slice_get (cells_of w) now.place) (sym window_is) ∙ now.cell_is) now.shown_is);
        }

    -- or to one that shows values alone
    pub behind_values : All IsShownValue report.board.cells → (earlier : Report) → Contains reports earlier → IsBehind opening new earlier report
    behind_values values earlier there =
        record {
          rises = rises earlier there;
          stale =
              λ cell value mark then now. absurd (All-contains IsShownValue report.board.cells (Stale mark) values
              (stands_in report.board.cells now.place (Stale mark) now.shown_is));
        }

    -- the number of a report covers all edits that its client has
    module _ (look : LookAsked) (made : look.made ≡ length (edits_asked commands)) (firm_is : report.firm ≡ look.firm)
        (window_is : report.board.window ≡ look.window)
        (inside : IsInside opening.sizes look.window) (ordered : IsOrdered look.window.head look.window.tail)
        (seen : (report.board.number ≤ new.seen) ⊎ (report.board.number ≤ length new.log))
        (cells : AllZip (IsTold opening new report.board.number) (cells_of look.window) report.board.cells)
        (values : report.firm ≡ true → All IsShownValue report.board.cells) where
      pub reported : IsReported opening new numbers look report
      reported =
          let all : length (edits_asked commands) ≡ length numbers = AllZip-long (StandsAs client old.log) numbers (edits_asked commands) before.edits in
          let enough : length numbers ≤ look.made = omega (arith, made, all) in
          record {
            firm_is = firm_is;
            window_is = window_is;
            inside = inside;
            ordered = ordered;
            seen = seen;
            made = omega (arith, made, all);
            covers = subst (λ (l : List ℕ). All (λ own. own ≤ report.board.number) l) (sym (take_all look.made numbers enough))
                (λ k d below. let o = before.own k d below in omega (arith, o, covers));
            precedes =
                subst (λ (l : List ℕ). All (λ own. report.board.number < own) l)
                (sym (drop_all look.made numbers enough)) (All-nil (λ own. report.board.number < own));
            cells = cells;
            values = values;
          }
