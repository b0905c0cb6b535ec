-- What steps do to the machine.
use Rattle.std.proofs.Common.{◌≡◌, ℕ, zero, suc, ◌+◌, ◌<◌, ◌≤◌, Bool, true, false, cond, List, [], ◌∷◌, ◌++◌, length}
use Rattle.std.proofs.Common.{length-append, get_or, take, map, replicate, count_by, IsTrue, All, arith, refl, sym, ap}
use Rattle.std.proofs.Common.{subst, ◌∙◌}
use Rattle.std.specs.Prelude.{Some, slice_get}
use Rattle.sheet_refs.specs.Cells.{Position, Corners, cells_of}
use Rattle.sheet_refs.specs.Sizes.{cell_count, is_inside}
use Rattle.sheet_refs.specs.declared.sizes.Sizes.{Sizes}
use Rattle.graph_walk.specs.Paths.{IsReached}
use Rattle.std.proofs.lemmas.List.{append-nil, length-map, length-replicate, map-append}
use Rattle.std.proofs.lemmas.List.Elements.{All-append}
use Rattle.std.specs.Prelude.{nat_lt}
use Rattle.std.proofs.lemmas.List.Sums.{count_by-le-length, count_by_more_no, count_by_more_yes, sum_by-cons}
use Rattle.std.proofs.lemmas.Option.{get_or_from_slice_get, slice_get_within}
use Rattle.sheet_model.specs.Boards.{BoardValue, with_shown}
use Rattle.sheet_model.specs.declared.board.Shown.{Shown}
use Rattle.sheet_model.proofs.ListLemmas.{taken_more}
use Rattle.play_machine.proofs.TurnLemmas.{none_marked, turns_clear}
use Rattle.sheet_model.specs.Edits.{EditValue, IsChangeFor, after_edit}
use Rattle.sheet_model.specs.Logs.{after}
use Rattle.sheet_model.specs.Sheets.{SheetValue, HasLabel}
use Rattle.sheet_model.specs.declared.entry.Entry.{Entry}
use Rattle.sheet_model.proofs.EditLemmas.{edit-labels, edit-sizes}
use Rattle.edit_log.specs.Books.{client_entry}
use Rattle.edit_log.specs.Touches.{AreTouched, IsChangedBy, DependsDirectly, Touches}
use Rattle.edit_script.specs.declared.script.Command.{Command}
use Rattle.edit_script.specs.declared.script.Command.TheVariants.{Put, Look, Firm, Work}
use Rattle.edit_script.specs.declared.script.Step.{Step}
use Rattle.sheet_model.specs.Boards.{IsFull}
use Rattle.sheet_model.specs.declared.report.Report.{Report}
use Rattle.play_machine.specs.Machine.{AreTurns, FollowsCommand, IsMarked, IsNowhere, Machine, MarksTouched, Plays}
use Rattle.play_machine.specs.Machine.{machine_after, opening, report_of, shown_of, with_marks}
use Rattle.play_machine.specs.Machine.FollowsCommand.{puts, looks, settles, works}
use Rattle.play_machine.specs.Machine.Plays.{more, none as no_steps}
use Rattle.play_machine.specs.Marking.{SetsMarks}
use Rattle.play_machine.specs.Playing.{IsCommandOfSheet, TellsReports, is_put}

-- cells that an entry touches, marked with a number
pub touched_marks : (opening sheet : SheetValue) (log : List Entry) (entry : Entry) (client : ℕ) (edit : EditValue)
    (cells : List Position) (number : ℕ) (old new : List ℕ) → sheet ≡ after opening log
    → AreTouched opening log entry cells → entry ≡ client_entry client edit → SetsMarks sheet.sizes cells number old new
    → MarksTouched sheet client edit number old new
touched_marks opening sheet log entry client edit cells number old new replayed are entry_is marks = record {
  count = marks.count;
  touched = λ cell inside touches. marks.listed cell inside ((are.exact cell).1 (to cell touches));
  others = λ cell spared. marks.others cell (λ listed. spared (from cell ((are.exact cell).0 listed)));
}
  where
    to : (cell : Position) → Touches sheet [] (client_entry client edit) cell → Touches opening log entry cell
    to cell touches =
        subst (λ e. Touches opening log e cell) (sym entry_is)
        (subst (λ s. IsReached (DependsDirectly s) (IsChangedBy edit) cell) replayed touches)

    from : (cell : Position) → Touches opening log entry cell → Touches sheet [] (client_entry client edit) cell
    from cell touches =
        subst (λ s. IsReached (DependsDirectly s) (IsChangedBy edit) cell) (sym replayed)
        (subst (λ e. Touches opening log e cell) entry_is touches)

-- the same from what the calls say
pub put_marks : (opening sheet opened : SheetValue) (log kept : List Entry) (sizes : Sizes) (entry : Entry) (client : ℕ)
    (edit : EditValue) (touched cells : List Position) (number : ℕ) (old new : List ℕ) → sheet ≡ after opening log
    → opened ≡ opening → kept ≡ log → AreTouched opened kept entry touched → entry ≡ client_entry client edit
    → sizes ≡ sheet.sizes → cells ≡ touched → number ≡ length kept + 1 → SetsMarks sizes cells number old new
    → MarksTouched sheet client edit (length log + 1) old new
put_marks opening sheet opened log kept sizes entry client edit touched cells number old new replayed opened_is kept_is
    are entry_is sizes_is cells_are number_is marks =
    let are_of : AreTouched opening log entry cells =
    subst (λ cs. AreTouched opening log entry cs) (sym cells_are) (subst (λ o. AreTouched o log entry touched) opened_is
    (subst (λ l. AreTouched opened l entry touched) kept_is are)) in
    let numbered : number ≡ length log + 1 = number_is ∙ ap (λ (l : List Entry). length l + 1) kept_is in
    touched_marks opening sheet log entry client edit cells (length log + 1) old new replayed are_of entry_is
    (subst (λ n. SetsMarks sheet.sizes cells n old new) numbered (subst (λ s. SetsMarks s cells number old new) sizes_is marks))

-- the machine after an edit that was made
abbrev pub machine_with : SheetValue → ℕ → List ℕ → Machine
machine_with sheet number marks = record { sheet = sheet; number = number; marks = marks }

pub put_machine : (sheet edited kept : SheetValue) (log before after : List Entry) (entry : Entry) (client : ℕ)
    (edit : EditValue) (old marks : List ℕ) → kept ≡ sheet → before ≡ log → edited ≡ after_edit kept entry.edit
    → after ≡ before ++ entry ∷ [] → entry ≡ client_entry client edit
    → machine_with edited (length after) marks ≡ machine_after (machine_with sheet (length log) old) edit marks
put_machine sheet edited kept log before after entry client edit old marks kept_is before_is edited_is after_is entry_is =
    let sheets : edited ≡ after_edit sheet edit = edited_is ∙ ap (λ (s : SheetValue). after_edit s entry.edit) kept_is
    ∙ ap (λ (e : Entry). after_edit sheet e.edit) entry_is in
    let number : length after ≡ length log + 1 = ap length after_is ∙ length-append before (entry ∷ []) ∙ ap (λ (l : List Entry). length l + 1) before_is in
    λ i. record { sheet = sheets i; number = number i; marks = marks }

-- one cell more is shown
abbrev pub board_of : Machine → Corners → ℕ → BoardValue
board_of machine window place = record {
  room = length (cells_of window);
  number = machine.number;
  window = window;
  cells = map (shown_of machine) (take place (cells_of window));
}

pub board_more : (machine : Machine) (window : Corners) (place : ℕ) (cell : Position) (shown : Shown)
    (mid new : BoardValue) → mid ≡ board_of machine window place → slice_get (cells_of window) place ≡ Some cell
    → shown ≡ shown_of machine cell → new ≡ with_shown mid shown → new ≡ board_of machine window (place + 1)
board_more machine window place cell shown mid new mid_is at shown_is new_is =
    new_is ∙ ap (λ b. with_shown b shown) mid_is ∙ ap more (ap (λ s. map (shown_of machine) (take place (cells_of window)) ++ s ∷ []) shown_is ∙ pushed)
  where
    more : List Shown → BoardValue
    more cells = record { room = length (cells_of window); number = machine.number; window = window; cells = cells }

    pushed : map (shown_of machine) (take place (cells_of window)) ++ shown_of machine cell ∷ [] ≡ map (shown_of machine) (take (place + 1) (cells_of window))
    pushed =
        sym (map-append (shown_of machine) (take place (cells_of window)) (cell ∷ []))
        ∙ ap (map (shown_of machine))
        (sym (taken_more (cells_of window) place cell (slice_get_within (cells_of window) place cell at)
        (sym (get_or_from_slice_get (cells_of window) place cell cell at))))

-- each kind of step, as the code follows it
module _ (old new : Machine) (step : Step) (reports after : List Report) where
  pub tells_put : (edit : EditValue) (marks : List ℕ) → step.command ≡ Put edit
      → MarksTouched old.sheet step.client edit (old.number + 1) old.marks marks → new ≡ machine_after old edit marks
      → after ≡ reports → TellsReports old new step reports after
  tells_put edit marks is touched new_is after_is =
      record {
        told = [];
        follows = puts edit marks is touched new_is refl;
        joined = after_is
            ∙ sym (append-nil reports);
      }

  pub tells_look : (window : Corners) (report : Report) → step.command ≡ Look window → new ≡ old
      → report ≡ report_of old false window → after ≡ reports ++ report ∷ [] → TellsReports old new step reports after
  tells_look window report is new_is report_is after_is =
      record { told = report ∷ []; follows = looks window is new_is (ap (λ r. r ∷ []) report_is); joined = after_is }

  pub tells_firm : (window : Corners) (report : Report) (cleared : List ℕ) → step.command ≡ Firm window
      → length old.marks ≡ cell_count old.sheet.sizes → cleared ≡ replicate (length old.marks) 0
      → new ≡ with_marks old cleared → report ≡ report_of (with_marks old cleared) true window → after ≡ reports
      ++ report ∷ [] → TellsReports old new step reports after
  tells_firm window report cleared is filled cleared_is new_is report_is after_is =
      let none : (count : ℕ) → IsNowhere old.sheet.sizes (IsMarked old.sheet.sizes (replicate count 0)) = none_marked old.sheet.sizes in
      record {
        told = report ∷ [];
        follows = settles window (length old.marks) cleared is
            (subst (AreTurns old.sheet (length old.marks) old.marks) (sym cleared_is)
            (turns_clear old.sheet (length old.marks) old.marks filled (count_by-le-length (nat_lt 0) old.marks)))
            (subst (λ ms. IsNowhere old.sheet.sizes (IsMarked old.sheet.sizes ms)) (sym cleared_is) (none (length old.marks)))
            new_is (ap (λ r. r ∷ []) (report_is ∙ ap (λ m. report_of m true window) (sym new_is)));
        joined = after_is;
      }

  pub tells_work : (turns : ℕ) (marks : List ℕ) → step.command ≡ Work turns → AreTurns old.sheet turns old.marks marks
      → new ≡ with_marks old marks → after ≡ reports → TellsReports old new step reports after
  tells_work turns marks is made new_is after_is = record {
    told = [];
    follows = works turns marks is made new_is refl;
    joined = after_is ∙ sym (append-nil reports);
  }

-- one step more
pub plays_more : (start mid now : Machine) (steps : List Step) (k : ℕ) (step : Step) (before after : List Report)
    → Plays start (take k steps) mid before → TellsReports mid now step before after → k < length steps
    → step ≡ get_or steps k step → Plays start (take (k + 1) steps) now after
plays_more start mid now steps k step before after so_far tells below at =
    more (take k steps) (take (k + 1) steps) step mid now before tells.told after so_far tells.follows (taken_more steps k step below at) tells.joined

-- a step keeps the sizes and the labels, and makes one edit or none
abbrev pub one_of : Bool → ℕ
one_of b = cond b 1 0

pub record Keeps (old new : Machine) (command : Command) : Type 0 where
  pub sizes : new.sheet.sizes ≡ old.sheet.sizes
  pub labels : new.sheet.labels ≡ old.sheet.labels
  pub number : new.number ≡ old.number + one_of (is_put command)

pub follows_keeps : (old new : Machine) (client : ℕ) (command : Command) (told : List Report)
    → FollowsCommand old client command new told → Keeps old new command
follows_keeps old new client command told (puts edit marks is touched new_is told_is) = record {
  sizes = ap (λ (m : Machine). m.sheet.sizes) new_is ∙ edit-sizes old.sheet edit;
  labels = ap (λ (m : Machine). m.sheet.labels) new_is ∙ edit-labels old.sheet edit;
  number = ap (λ (m : Machine). m.number) new_is ∙ ap (λ c. old.number + one_of (is_put c)) (sym is);
}
follows_keeps old new client command told (looks window is new_is told_is) = record {
  sizes = ap (λ (m : Machine). m.sheet.sizes) new_is;
  labels = ap (λ (m : Machine). m.sheet.labels) new_is;
  number = ap (λ (m : Machine). m.number) new_is ∙ omega arith ∙ ap (λ c. old.number + one_of (is_put c)) (sym is);
}
follows_keeps old new client command told (settles window count marks is made none new_is told_is) = record {
  sizes = ap (λ (m : Machine). m.sheet.sizes) new_is;
  labels = ap (λ (m : Machine). m.sheet.labels) new_is;
  number = ap (λ (m : Machine). m.number) new_is ∙ omega arith ∙ ap (λ c. old.number + one_of (is_put c)) (sym is);
}
follows_keeps old new client command told (works count marks is made new_is told_is) = record {
  sizes = ap (λ (m : Machine). m.sheet.sizes) new_is;
  labels = ap (λ (m : Machine). m.sheet.labels) new_is;
  number = ap (λ (m : Machine). m.number) new_is ∙ omega arith ∙ ap (λ c. old.number + one_of (is_put c)) (sym is);
}

-- a command that fits a sheet fits every sheet with its sizes and labels
pub fit_moves : (a b : SheetValue) (command : Command) → b.sizes ≡ a.sizes → b.labels ≡ a.labels → IsCommandOfSheet a command → IsCommandOfSheet b command
fit_moves a b (Put edit) sizes labels fit = λ k d within. (
    let one : IsChangeFor a (get_or edit k d) = fit k d within in
    record {
      inside = subst (λ s. IsTrue (is_inside s (get_or edit k d).cell)) (sym sizes) one.inside;
      label = subst (λ (l : List (List ℕ)). HasLabel (length l) (get_or edit k d).content) (sym labels) one.label;
    }
    )
fit_moves a b (Look window) sizes labels fit = record {
  inside = λ cell there. subst (λ s. IsTrue (is_inside s cell)) (sym sizes) (fit.inside cell there);
  few = fit.few;
}
fit_moves a b (Firm window) sizes labels fit = record {
  inside = λ cell there. subst (λ s. IsTrue (is_inside s cell)) (sym sizes) (fit.inside cell there);
  few = fit.few;
}
fit_moves a b (Work turns) sizes labels fit = fit

-- how many pass, up to a place
module _ {A : Type 0} (p : A → Bool) where
  pub count_taken : (xs : List A) (n : ℕ) → count_by p (take n xs) ≤ count_by p xs
  count_taken xs zero = omega arith
  count_taken [] (suc n) = omega arith
  count_taken (x ∷ xs) (suc n) =
      let rest = count_taken xs n in rw (
        sum_by-cons (λ y. one_of (p y)) x (take n xs),
        sum_by-cons (λ y. one_of (p y)) x xs,
      ) (omega (arith, rest))

  pub count_more : (xs : List A) (k : ℕ) (x : A) → k < length xs → x ≡ get_or xs k x → count_by p (take (k + 1) xs) ≡ count_by p (take k xs) + one_of (p x)
  count_more xs k x below at = go (p x) refl
    where
      go : (b : Bool) → p x ≡ b → count_by p (take (k + 1) xs) ≡ count_by p (take k xs) + one_of b
      go true is = count_by_more_yes p xs k x below (ap p (sym at) ∙ is)
      go false is = count_by_more_no p xs k x below (ap p (sym at) ∙ is) ∙ omega arith

-- a machine that begins
pub opened : (machine : Machine) (sheet : SheetValue) → machine ≡ opening sheet → (machine.sheet.sizes ≡ sheet.sizes)
    × (machine.sheet.labels ≡ sheet.labels) × (machine.number ≡ 0)
    × (length machine.marks ≡ cell_count machine.sheet.sizes)
opened machine sheet is = (
  ap (λ (m : Machine). m.sheet.sizes) is,
  ap (λ (m : Machine). m.sheet.labels) is,
  ap (λ (m : Machine). m.number) is,
  ap (λ (m : Machine). length m.marks) is ∙ length-replicate (cell_count sheet.sizes) 0 ∙ ap cell_count (sym (ap (λ (m : Machine). m.sheet.sizes) is)),
)

pub plays_none : (machine : Machine) (sheet : SheetValue) (reports : List Report) → machine ≡ opening sheet
    → reports ≡ [] → Plays (opening sheet) [] machine reports
plays_none machine sheet reports is none_told =
    subst (λ rs. Plays (opening sheet) [] machine rs) (sym none_told) (subst (λ m. Plays (opening sheet) [] m [])
    (sym is) no_steps)

abbrev pub AreFull : List Report → Type 0
AreFull reports = All (λ report. IsFull report.board) reports

one_full : (machine : Machine) (firm : Bool) (window : Corners) → AreFull (report_of machine firm window ∷ [])
one_full machine firm window zero d below = length-map (cells_of window) (shown_of machine)
one_full machine firm window (suc k) d below = absurd (omega (arith, below))

-- each report tells of all cells of its window
pub full_told : (old new : Machine) (client : ℕ) (command : Command) (told : List Report)
    → FollowsCommand old client command new told → All (λ report. IsFull report.board) told
full_told old new client command told (puts edit marks is touched new_is told_is) = subst AreFull (sym told_is) (λ k d below. absurd (omega (arith, below)))
full_told old new client command told (looks window is new_is told_is) = subst AreFull (sym told_is) (one_full old false window)
full_told old new client command told (settles window count marks is made nowhere new_is told_is) = subst AreFull (sym told_is) (one_full new true window)
full_told old new client command told (works count marks is made new_is told_is) = subst AreFull (sym told_is) (λ k d below. absurd (omega (arith, below)))

pub plays_full : (start now : Machine) (steps : List Step) (told : List Report) → Plays start steps now told → All (λ report. IsFull report.board) told
plays_full start _ _ _ no_steps = λ k d below. absurd (omega (arith, below))
plays_full start now steps told (more before all step mid last said news after plays follows is are) =
    subst AreFull (sym are) (All-append (λ report. IsFull report.board) said news
    (plays_full start mid before said plays) (full_told mid now step.client step.command news follows))
