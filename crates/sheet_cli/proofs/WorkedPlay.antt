-- What is played of the worked script over the worked sheet.
use Rattle.std.proofs.Common.{◌≡◌, ℕ, zero, suc, ◌<◌, ◌≤◌, ◌⊎◌, inl, inr, Bool, true, false, Contains, List, [], ◌∷◌}
use Rattle.std.proofs.Common.{codes, refl, sym, ◌∙◌, subst, ap, arith, IsTrue, IsFalse}
use Rattle.std.specs.Prelude.{if◌then◌else◌, slice_index_or}
use Rattle.std.specs.Fmt.{digits}
use Rattle.sheet_refs.specs.Cells.{Corners, IsIn, Position}
use Rattle.sheet_refs.specs.Rectangles.{IsAmong}
use Rattle.sheet_refs.specs.Sizes.{is_inside, place_of}
use Rattle.sheet_refs.proofs.Places.{inside_bounds}
use Rattle.sheet_model.specs.Budget.{ev}
use Rattle.sheet_model.specs.Edits.{after_edit}
use Rattle.sheet_model.specs.Sheets.{SheetValue, content_of}
use Rattle.sheet_model.specs.Values.{value_of}
use Rattle.sheet_model.proofs.ListMembers.{first_member}
use Rattle.graph_walk.specs.Graphs.{Step}
use Rattle.graph_walk.specs.Paths.{IsPath}
use Rattle.edit_log.specs.Books.{client_entry}
use Rattle.sheet_model.specs.Ranges.{ranges_in}
use Rattle.edit_log.specs.Touches.{DependsDirectly, Touches}
use Rattle.edit_log.proofs.TouchLemmas.{sole_change}
use Rattle.edit_script.specs.declared.script.Command.TheVariants as asks
use Rattle.play_machine.specs.Machine.{ArePlayed, AreTurns, IsReady, IsTurn, Machine, MarksTouched, is_marked}
use Rattle.play_machine.specs.Machine.{machine_after, mark_of, opening, report_of, with_marks}
use Rattle.play_machine.specs.Machine.AreTurns.{none as no_turns, more as turn_more}
use Rattle.play_machine.specs.Machine.FollowsCommand.{puts, looks, works}
use Rattle.play_machine.specs.Machine.IsTurn.{clears_ready}
use Rattle.play_machine.specs.Machine.Plays.{none as nothing_played, more as play_more}
use Rattle.window_text.specs.Reports.{play_text}
use Rattle.sheet_model.specs.declared.report.Report.{Report}
use Rattle.sheet_cli.proofs.WorkedGraph.{at, from_to, holds_reach, of_worked, on_cell, one_cell, same_at, worked_pairs, worked_runs}
use Rattle.sheet_cli.proofs.WorkedScript.{whole_window, worked_change, worked_edit, worked_steps}
use Rattle.sheet_cli.proofs.WorkedSheet.{worked_sheet}

-- ---- the edit touches A1, B1 and B2

abbrev IsTouched : Position → Type 0
IsTouched cell = Touches worked_sheet [] (client_entry 0 worked_edit) cell

as_step : (from to : Position) → DependsDirectly worked_sheet from to → Step worked_pairs from to
as_step from to step = record { pair = step.pair; listed = (of_worked step.pair).1 step.of_sheet; inside = step.inside; cell_is = step.cell_is }

of_step : (from to : Position) → Step worked_pairs from to → DependsDirectly worked_sheet from to
of_step from to step = record { pair = step.pair; of_sheet = (of_worked step.pair).0 step.listed; inside = step.inside; cell_is = step.cell_is }

as_path : (from to : Position) (cells : List Position) → IsPath (DependsDirectly worked_sheet) from cells to → IsPath (Step worked_pairs) from cells to
as_path from to [] same = same
as_path from to (next ∷ cells) (step, path) = (as_step from next step, as_path next to cells path)

of_path : (from to : Position) (cells : List Position) → IsPath (Step worked_pairs) from cells to → IsPath (DependsDirectly worked_sheet) from cells to
of_path from to [] same = same
of_path from to (next ∷ cells) (step, path) = (of_step from next step, of_path next to cells path)

among_touched : (cell : Position) → IsTouched cell → IsAmong worked_runs cell
among_touched cell touched = (holds_reach cell).1 (record {
  from = touched.from;
  starts = subst (λ from. IsIn from (one_cell (at 1 1))) (sym (sole_change worked_change touched.from touched.starts)) (on_cell (at 1 1));
  cells = touched.cells;
  path = as_path touched.from cell touched.cells touched.path;
})

touched_among : (cell : Position) → IsAmong worked_runs cell → IsTouched cell
touched_among cell among =
    let reach = (holds_reach cell).0 among in
    record {
      from = reach.from;
      starts = (
        worked_change,
        first_member worked_change [],
        sym (same_at reach.from 1 1 (omega (arith, reach.starts.row_from, reach.starts.row_to)) (omega (arith, reach.starts.col_from, reach.starts.col_to))),
      );
      cells = reach.cells;
      path = of_path reach.from cell reach.cells reach.path;
    }

-- which numbers these cells have
numbers : (cell : Position) → IsAmong worked_runs cell → ((cell.row ≡ 1) × (cell.col ≡ 1)) ⊎ ((1 ≤ cell.row) × (cell.row ≤ 2) × (cell.col ≡ 2))
numbers cell among = by among.listed
  where
    by : Contains worked_runs among.range → ((cell.row ≡ 1) × (cell.col ≡ 1)) ⊎ ((1 ≤ cell.row) × (cell.row ≤ 2) × (cell.col ≡ 2))
    by (zero, within, is) =
        let here : IsIn cell (one_cell (at 1 1)) = subst (IsIn cell) (sym is) among.inside in
        inl (omega (arith, here.row_from, here.row_to), omega (arith, here.col_from, here.col_to))
    by (suc zero, within, is) =
        let here : IsIn cell (from_to (at 1 2) (at 2 2)) = subst (IsIn cell) (sym is) among.inside in
        inr (here.row_from, here.row_to, omega (arith, here.col_from, here.col_to))
    by (suc (suc k), within, is) = absurd (omega (arith, within))

among_b : (row : ℕ) → 1 ≤ row → row ≤ 2 → IsAmong worked_runs (at row 2)
among_b row a b = record {
  range = from_to (at 1 2) (at 2 2);
  listed = (1, omega arith, refl);
  inside = record { row_from = a; row_to = b; col_from = omega arith; col_to = omega arith };
}

-- ---- the marks

abbrev no_marks : List ℕ
no_marks = 0 ∷ 0 ∷ 0 ∷ 0 ∷ []

abbrev three_marks : List ℕ
three_marks = 1 ∷ 1 ∷ 0 ∷ 1 ∷ []

abbrev two_marks : List ℕ
two_marks = 0 ∷ 1 ∷ 0 ∷ 1 ∷ []

abbrev one_mark : List ℕ
one_mark = 0 ∷ 0 ∷ 0 ∷ 1 ∷ []

mark_b : (row : ℕ) → 1 ≤ row → row ≤ 2 → mark_of worked_sheet.sizes three_marks (at row 2) ≡ 1
mark_b zero a b = absurd (omega (arith, a))
mark_b (suc zero) a b = refl
mark_b (suc (suc zero)) a b = refl
mark_b (suc (suc (suc row))) a b = absurd (omega (arith, b))

marked_among : (cell : Position) → IsAmong worked_runs cell → mark_of worked_sheet.sizes three_marks cell ≡ 1
marked_among cell among = elim (numbers cell among) [
  | inl (row, col) ↦ subst (λ c. mark_of worked_sheet.sizes three_marks c ≡ 1) (same_at cell 1 1 row col) refl
  | inr (from, to, col) ↦ subst (λ c. mark_of worked_sheet.sizes three_marks c ≡ 1) (same_at cell cell.row 2 refl col) (mark_b cell.row from to)
]

abbrev IsKept : Position → Type 0
IsKept cell = mark_of worked_sheet.sizes three_marks cell ≡ mark_of worked_sheet.sizes no_marks cell

kept_at : (row col : ℕ) → 1 ≤ row → row ≤ 2 → 1 ≤ col → col ≤ 2 → ¬ IsAmong worked_runs (at row col) → IsKept (at row col)
kept_at zero col a b c d none = absurd (omega (arith, a))
kept_at (suc row) zero a b c d none = absurd (omega (arith, c))
kept_at (suc row) (suc (suc (suc col))) a b c d none = absurd (omega (arith, d))
kept_at (suc (suc (suc row))) (suc zero) a b c d none = absurd (omega (arith, b))
kept_at (suc (suc (suc row))) (suc (suc zero)) a b c d none = absurd (omega (arith, b))
kept_at (suc zero) (suc zero) a b c d none = absurd (none (record { range = one_cell (at 1 1); listed = (0, omega arith, refl); inside = on_cell (at 1 1) }))
kept_at (suc (suc zero)) (suc zero) a b c d none = refl
kept_at (suc zero) (suc (suc zero)) a b c d none = absurd (none (among_b 1 (omega arith) (omega arith)))
kept_at (suc (suc zero)) (suc (suc zero)) a b c d none = absurd (none (among_b 2 (omega arith) (omega arith)))

kept_others : (cell : Position) (inside : Bool) → is_inside worked_sheet.sizes cell ≡ inside → ¬ IsTouched cell → IsKept cell
kept_others cell false is none =
    let now = ap (λ (t : Bool). if t then slice_index_or three_marks (place_of worked_sheet.sizes cell) 0 else 0) is in
    let was = ap (λ (t : Bool). if t then slice_index_or no_marks (place_of worked_sheet.sizes cell) 0 else 0) is in
    now ∙ sym was
kept_others cell true is none =
    let bounds = inside_bounds worked_sheet.sizes cell is in
    kept_at cell.row cell.col bounds.row_from bounds.row_to bounds.col_from bounds.col_to (λ among. none (touched_among cell among))

marks_touched : MarksTouched worked_sheet 0 worked_edit 1 no_marks three_marks
marks_touched = record {
  count = refl;
  touched = λ cell inside touched. marked_among cell (among_touched cell touched);
  others = λ cell none. kept_others cell (is_inside worked_sheet.sizes cell) refl none;
}

-- ---- the turns

abbrev edited_sheet : SheetValue
edited_sheet = after_edit worked_sheet worked_edit

-- no other cell is an input of A1, and A1 alone is one of B1
ready_first : IsReady edited_sheet three_marks (at 1 1)
ready_first =
    record {
      marked = refl;
      inputs = λ input step. nothing input step.pair.range
          (subst (λ cell. Contains (ranges_in (content_of edited_sheet cell)) step.pair.range) step.cell_is step.of_sheet);
    }
  where
    nothing : (input : Position) (range : Corners) → Contains [] range → IsFalse (is_marked edited_sheet.sizes three_marks input)
    nothing input range there = absurd (omega (arith, there.1))

ready_second : IsReady edited_sheet two_marks (at 1 2)
ready_second =
    record {
      marked = refl;
      inputs = λ input step. by input step.pair.range step.inside
          (subst (λ cell. Contains (ranges_in (content_of edited_sheet cell)) step.pair.range) step.cell_is step.of_sheet);
    }
  where
    by : (input : Position) (range : Corners) → IsIn input range → Contains (one_cell (at 1 1) ∷ []) range
        → IsFalse (is_marked edited_sheet.sizes two_marks input)
    by input range inside (zero, within, is) =
        let here : IsIn input (one_cell (at 1 1)) = subst (IsIn input) (sym is) inside in
        subst (λ cell. IsFalse (is_marked edited_sheet.sizes two_marks cell))
        (same_at input 1 1 (omega (arith, here.row_from, here.row_to)) (omega (arith, here.col_from, here.col_to)))
        refl
    by input range inside (suc k, within, is) = absurd (omega (arith, within))

first_turn : IsTurn edited_sheet three_marks two_marks
first_turn = clears_ready (at 1 1) (record { inside = refl; such = ready_first; first = λ other inside less. absurd (omega (arith, less)) }) refl

second_turn : IsTurn edited_sheet two_marks one_mark
second_turn = clears_ready (at 1 2) (record { inside = refl; such = ready_second; first = before }) refl
  where
    unmarked : ¬ (false ≡ true)
    unmarked h = cc

    before : (other : Position) → IsTrue (is_inside edited_sheet.sizes other) → place_of edited_sheet.sizes other < 1 → ¬ IsReady edited_sheet two_marks other
    before other inside less ready =
        let bounds = inside_bounds edited_sheet.sizes other inside in
        unmarked (subst (λ cell. is_marked edited_sheet.sizes two_marks cell ≡ true)
        (sym (same_at other 1 1 (omega (arith, bounds.row_from, bounds.col_from, less))
        (omega (arith, bounds.row_from, bounds.col_from, less)))) ready.marked)

two_turns : AreTurns edited_sheet 2 three_marks one_mark
two_turns =
    turn_more 1 2 three_marks two_marks one_mark (turn_more 0 1 three_marks three_marks two_marks (no_turns three_marks)
    first_turn refl) second_turn refl

-- ---- the reports

abbrev edited : Machine
edited = machine_after (opening worked_sheet) worked_edit three_marks

abbrev worked : Machine
worked = with_marks edited one_mark

abbrev pub worked_reports : List Report
worked_reports = report_of edited false whole_window ∷ report_of worked false whole_window ∷ []

pub are_played : ArePlayed worked_sheet worked_steps worked_reports
are_played = (
  worked,
  play_more _ worked_steps (record { client = 0; command = asks.Look whole_window }) worked worked
      (report_of edited false whole_window ∷ []) (report_of worked false whole_window ∷ []) worked_reports
      (play_more _ _ (record { client = 0; command = asks.Work 2 }) edited worked (report_of edited false whole_window ∷ []) [] _
      (play_more _ _ (record { client = 0; command = asks.Look whole_window }) edited edited [] (report_of edited false whole_window ∷ []) _
      (play_more [] _ (record { client = 0; command = asks.Put worked_edit }) (opening worked_sheet) edited [] [] _ nothing_played
      (puts worked_edit three_marks refl marks_touched refl refl) refl refl)
      (looks whole_window refl refl refl) refl refl)
      (works 2 one_mark refl two_turns refl refl) refl refl)
      (looks whole_window refl refl refl) refl refl,
)

pub play_shown : play_text [] worked_reports ≡ codes "look 1 A1:B2\n~1,~1\n2,~1\nlook 1 A1:B2\n5,6\n2,~1\n"
unfolding value_of ev digits
play_shown = refl
