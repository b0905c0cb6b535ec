-- Reads of cells that the editor's seat knows as clean.
use Rattle.std.proofs.Common.{◌≡◌, ◌⊎◌, inl, inr, ℕ, ◌+◌, ◌<◌, ◌≤◌, List, [], Some, length, map, take, slice_get, sym, ◌∙◌, ap, subst, arith}
use Rattle.std.proofs.lemmas.List.{take_all}
use Rattle.sheet_refs.specs.Cells.{Position, Corners, IsIn, cells_of}
use Rattle.sheet_refs.specs.Sizes.{place_of}
use Rattle.sheet_refs.proofs.Places.{HasComeTo}
use Rattle.mark_core.specs.declared.subjects.Subject.{Ghosts}
use Rattle.mark_core.specs.Legal.{MeetsFloor}
use Rattle.mark_core.specs.Marks.{IsLastMark}
use Rattle.mark_core.proofs.Prefixes.{last_mark_unique}
use Rattle.mark_words.specs.declared.marks.Marks.{Marks}
use Rattle.mark_words.specs.declared.seats.Seat.{Seat}
use Rattle.mark_words.specs.Tokens.{IsSeatOf, view_of, log_of, seen_of}
use Rattle.edit_log.specs.Touches.{TouchesPlace}
use Rattle.recalc_workers.specs.Settling.{KeepsEditor, KnowsNoLess}
use Rattle.recalc_workers.proofs.ReadingLemmas.{one_more}
use Rattle.recalc_workers.proofs.SettlingLemmas.{knows_still}
use Rattle.recalc_workers.proofs.SharingLemmas.{keeps_editor_on}
use Rattle.sheet_model.specs.Boards.{BoardValue, begun_board, with_shown}
use Rattle.sheet_model.specs.Logs.{after}
use Rattle.sheet_model.specs.declared.board.Shown.{Shown}
use Rattle.sheet_model.specs.declared.entry.Entry.{Entry}
use Rattle.sheet_model.specs.Sheets.{SheetValue}
use Rattle.live_sheet.specs.Firm.{IsFirmLook, ShowsValues, value_shown}
use Rattle.live_sheet.specs.Stale.{KnowsCell}
use Rattle.live_sheet.proofs.StaleLemmas.{cell_still, kept_itself}

-- a read of a place that is known with its last mark, by a view with the whole log: it shows the place as clean
pub shows_clean : {E : Type 0} (touches : List E → E → ℕ → Type 0) (log : List E) (place known mark floor upto : ℕ)
    → IsLastMark touches log place known → IsLastMark touches log place mark
    → known < floor → MeetsFloor mark floor upto → upto ≡ mark + 1
shows_clean touches log place known mark floor upto last read above meets = by_case meets
  where
    same : known ≡ mark
    same = last_mark_unique touches log place known mark last read

    by_case : (floor ≤ mark) ⊎ ((mark + 1 ≡ floor) × (upto ≡ floor)) → upto ≡ mark + 1
    by_case (inl below) = absurd (omega (arith, same, above, below))
    by_case (inr is) = is.1 ∙ sym is.0

-- the editor's seat and the board while the cells of a window are shown, row by row
module _ {S E : Type 0} {G : Ghosts S E} (marks : Marks S E) (sheet : SheetValue) (number : ℕ) (window : Corners) (room : ℕ) (editor₀ : Seat S E G) where
  pub record WindowSoFar (editor : Seat S E G) (board : BoardValue) (place : ℕ) (cell : Position) : Type 0 where
    pub table : IsSeatOf marks editor
    pub kept : KeepsEditor editor₀ editor
    pub number_is : board.number ≡ number
    pub window_is : board.window ≡ window
    pub room_is : board.room ≡ room
    pub cells : board.cells ≡ map (value_shown sheet) (take place (cells_of window))
    pub at : HasComeTo window place cell

  pub window_begins : IsSeatOf marks editor₀ → (board begun : BoardValue) → begun ≡ begun_board board number window
      → board.room ≡ room → (cell : Position) → HasComeTo window 0 cell
      → WindowSoFar editor₀ begun 0 cell
  window_begins table board begun is room_is cell at =
      record {
        table = table;
        kept = kept_itself editor₀;
        number_is = ap (λ (b : BoardValue). b.number) is;
        window_is = ap (λ (b : BoardValue). b.window) is;
        room_is = ap (λ (b : BoardValue). b.room) is ∙ room_is;
        cells = ap (λ (b : BoardValue). b.cells) is;
        at = at;
      }

  pub window_goes_on : (editor next : Seat S E G) (board pushed : BoardValue) (shown : Shown) (place : ℕ)
      (cell behind : Position) → WindowSoFar editor board place cell
      → slice_get (cells_of window) place ≡ Some cell → IsSeatOf marks next → KeepsEditor editor next
      → shown ≡ value_shown sheet cell → pushed ≡ with_shown board shown
      → HasComeTo window (place + 1) behind → WindowSoFar next pushed (place + 1) behind
  window_goes_on editor next board pushed shown place cell behind so here table kept is one at =
      record {
        table = table;
        kept = keeps_editor_on editor₀ editor next so.kept kept;
        number_is = ap (λ (b : BoardValue). b.number) one ∙ so.number_is;
        window_is = ap (λ (b : BoardValue). b.window) one ∙ so.window_is;
        room_is = ap (λ (b : BoardValue). b.room) one ∙ so.room_is;
        cells = one_more (value_shown sheet) (cells_of window) place cell shown [] board.cells pushed.cells here is
            so.cells (ap (λ (b : BoardValue). b.cells) one);
        at = at;
      }

  pub window_ends : (editor : Seat S E G) (board : BoardValue) (count place : ℕ) (cell : Position)
      → WindowSoFar editor board place cell → count ≡ length (cells_of window) → count ≤ place
      → ShowsValues sheet number window room board
  window_ends editor board count place cell so all past =
      record {
        number_is = so.number_is;
        window_is = so.window_is;
        room_is = so.room_is;
        cells = so.cells ∙ ap (map (value_shown sheet)) (take_all place (cells_of window) (omega (arith, all, past)));
      }

-- once the window is known to the editor's seat and shown, one that it told has had a firm look
pub is_firm : {G : Ghosts SheetValue Entry} (opening sheet : SheetValue) (number : ℕ) (window : Corners) (room : ℕ)
    (board : BoardValue) (old heard settled shown new : Seat SheetValue Entry G)
    → sheet ≡ opening → number ≡ length (log_of heard) → seen_of old ≤ seen_of heard
    → seen_of heard ≡ length (log_of heard) → KeepsEditor heard settled → KeepsEditor settled shown
    → KnowsNoLess (view_of shown) (view_of new) → ((cell : Position) → IsIn cell window → KnowsCell (TouchesPlace opening) opening.sizes (view_of settled) cell)
    → ShowsValues (after sheet (log_of settled)) number window room board → IsFirmLook opening window old new room board
is_firm opening sheet number window room board old heard settled shown new same number_is covers seen kept kept₁ less known shows =
    record {
      shows =
          subst (λ (n : ℕ). ShowsValues (after opening (log_of new)) n window room board) (number_is ∙ ap length (sym (log ∙ kept.log)))
          (subst (λ (l : List Entry). ShowsValues (after opening l) number window room board) (sym log)
          (subst (λ (s : SheetValue). ShowsValues (after s (log_of settled)) number window room board) same shows));
      covers = subst (λ (n : ℕ). seen_of old ≤ n) (sym (shows.number_is ∙ number_is)) (omega (arith, covers, seen));
      known = λ cell inside.
          knows_still (TouchesPlace opening) (view_of shown) (view_of new) (place_of opening.sizes cell) less
          (cell_still (TouchesPlace opening) opening.sizes settled shown kept₁ cell (known cell inside));
    }
  where
    log : log_of new ≡ log_of settled
    log = less.log ∙ kept₁.log
