-- What a seat's view tells of the reports of a client: how what they show came about.
use Rattle.std.specs.Prelude.{◌≡◌, ◌≢◌, ◌<◌, ◌≤◌, ◌+◌, ◌-◌, ◌⊎◌, ℕ, true, List, Some, length, take, drop, slice_get, All, AllPairs, Contains}
use Rattle.std.specs.List.{AllZip}
use Rattle.sheet_refs.specs.Cells.{Position, IsOrdered, cells_of}
use Rattle.sheet_refs.specs.Sizes.{place_of}
use Rattle.edit_log.specs.Books.{client_entry}
use Rattle.edit_log.specs.Rows.{IsInside}
use Rattle.edit_log.specs.Touches.{TouchesPlace}
use Rattle.edit_script.specs.declared.script.Command.{Command}
use Rattle.live_sheet.specs.Firm.{value_shown}
use Rattle.live_sheet.specs.Looks.{ShowsLoads}
use Rattle.mark_core.specs.Marks.{IsLastMark}
use Rattle.mark_core.specs.declared.actors.View.{View}
use Rattle.mark_core.specs.declared.words.Finished.{Finished}
use Rattle.sheet_model.specs.Edits.{EditValue, AreHeldBeside}
use Rattle.sheet_model.specs.Logs.{after}
use Rattle.sheet_model.specs.Sheets.{SheetValue}
use Rattle.sheet_model.specs.declared.board.Shown.{Shown}
use Rattle.sheet_model.specs.declared.board.Shown.TheVariants.{Value, Stale}
use Rattle.sheet_model.specs.declared.entry.Entry.{Entry}
use Rattle.value_core.specs.declared.value.Value.{Value as CellValue}
use Rattle.sheet_model.specs.declared.report.Report.{Report}
use Rattle.live_run.specs.Legal.{LookAsked, edits_asked, looks_asked, Shows, IsShownValue}

-- the log has this edit of the client under the number
abbrev pub StandsAs : ℕ → List Entry → ℕ → EditValue → Type 0
StandsAs client log number edit = slice_get log (number - 1) ≡ Some (client_entry client edit)

module _ (opening : SheetValue) where
  -- The look at a number of edits read the cell, and showed this of it. The view has the read still; and where the cell was
  -- computed for the mark that was read, the view knows that.
  pub record IsReadBy (view : View (List Entry)) (number : ℕ) (cell : Position) (shown : Shown) : Type 0 where
    pub read : Finished
    pub word : ℕ
    pub kept : Contains view.reads read
    pub word_is : read.word ≡ Some word
    pub number_is : read.number ≡ number
    pub place_is : read.place ≡ place_of opening.sizes cell
    pub shown_is : ShowsLoads number (record { clean = read.clean; word = word; mark = read.mark }) shown
    pub known : read.clean.upto ≡ read.mark + 1 → Contains view.known (record { place = place_of opening.sizes cell; mark = read.mark })

  -- The view knows the first so many entries of the log, and that the cell is computed for the last of them that touches it;
  -- the value after them was shown.
  pub record IsKnownBy (view : View (List Entry)) (number : ℕ) (cell : Position) (shown : Shown) : Type 0 where
    pub within : number ≤ length view.log
    pub shown_is : shown ≡ value_shown (after opening (take number view.log)) cell
    pub mark : ℕ
    pub known : Contains view.known (record { place = place_of opening.sizes cell; mark = mark })
    pub last : IsLastMark (TouchesPlace opening) (take number view.log) (place_of opening.sizes cell) mark

  -- how what a report shows of a cell came about
  abbrev pub IsTold : View (List Entry) → ℕ → Position → Shown → Type 0
  IsTold view number cell shown = IsReadBy view number cell shown ⊎ IsKnownBy view number cell shown

  -- A read of the view, at this number, found the place computed for this mark.
  pub record IsMarkRead (view : View (List Entry)) (number place mark : ℕ) : Type 0 where
    pub read : Finished
    pub word : ℕ
    pub kept : Contains view.reads read
    pub word_is : read.word ≡ Some word
    pub number_is : read.number ≡ number
    pub place_is : read.place ≡ place
    pub mark_is : read.mark ≡ mark
    pub computed : read.clean.upto ≡ read.mark + 1
    pub within : read.mark ≤ number

  -- The view knows the first so many entries, and this is the place's last mark in them.
  pub record IsMarkKnown (view : View (List Entry)) (number place mark : ℕ) : Type 0 where
    pub within : number ≤ length view.log
    pub last : IsLastMark (TouchesPlace opening) (take number view.log) place mark

  -- how it is known that this is the place's last mark in the first so many entries
  abbrev pub IsMarkAt : View (List Entry) → ℕ → ℕ → ℕ → Type 0
  IsMarkAt view number place mark = IsMarkRead view number place mark ⊎ IsMarkKnown view number place mark

  -- A cell whose last mark at a number is known was read as stale, at this mark, by a read whose floor was past the last mark.
  pub record IsMarkedSince (view : View (List Entry)) (number : ℕ) (cell : Position) (mark : ℕ) : Type 0 where
    pub last : ℕ
    pub at : IsMarkAt view number (place_of opening.sizes cell) last
    pub read : Finished
    pub word : ℕ
    pub kept : Contains view.reads read
    pub word_is : read.word ≡ Some word
    pub mark_is : read.mark ≡ mark
    pub stale : read.clean.upto ≢ read.mark + 1
    pub floor : last + 1 ≤ read.floor

  -- of two reports the later one has no smaller number, and each cell that shows a value in the earlier one and is stale in
  -- the later one was marked since
  pub record IsBehind (view : View (List Entry)) (earlier later : Report) : Type 0 where
    pub rises : earlier.board.number ≤ later.board.number
    pub stale : (cell : Position) (value : CellValue) (mark : ℕ) → Shows earlier cell (Value value) → Shows later cell (Stale mark)
        → IsMarkedSince view earlier.board.number cell mark

  -- A report answers a look: its number covers the edits that the client had then, by these numbers of its edits, and no
  -- later one; and of each cell of the window it is known how what is shown came about.
  pub record IsReported (view : View (List Entry)) (numbers : List ℕ) (look : LookAsked) (report : Report) : Type 0 where
    pub firm_is : report.firm ≡ look.firm
    pub window_is : report.board.window ≡ look.window
    pub inside : IsInside opening.sizes look.window
    pub ordered : IsOrdered look.window.head look.window.tail
    pub seen : (report.board.number ≤ view.seen) ⊎ (report.board.number ≤ length view.log)
    pub made : look.made ≤ length numbers
    pub covers : All (λ own. own ≤ report.board.number) (take look.made numbers)
    pub precedes : All (λ own. report.board.number < own) (drop look.made numbers)
    pub cells : AllZip (IsTold view report.board.number) (cells_of look.window) report.board.cells
    pub values : report.firm ≡ true → All IsShownValue report.board.cells

  -- What a view knows after some commands of a client, whose accepted edits have these numbers: the edits stand in the log
  -- under the numbers; each look is answered by a report, in order; and no report goes back behind an earlier one.
  pub record HasAnswered (client : ℕ) (commands : List Command) (view : View (List Entry)) (numbers : List ℕ) (reports : List Report) : Type 0 where
    pub edits : AllZip (StandsAs client view.log) numbers (edits_asked commands)
    pub own : All (λ own. own ≤ view.seen) numbers
    pub held : All (AreHeldBeside (length opening.labels)) (edits_asked commands)
    pub answered : AllZip (IsReported view numbers) (looks_asked commands) reports
    pub behind : AllPairs (IsBehind view) reports
