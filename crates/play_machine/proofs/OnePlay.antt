-- Steps over a sheet give one list of reports.
use Rattle.std.proofs.Common.{◌≡◌, ◌⊎◌, inl, inr, ℕ, ◌+◌, ◌<◌, ◌≤◌, true, false, List, [], ◌∷◌, ◌++◌, length, get_or}
use Rattle.std.proofs.Common.{replicate, IsTrue, arith, refl, sym, ap, ap₂, subst, ◌∙◌}
use Rattle.std.proofs.lemmas.Bool.{cases_eq, cases_lt}
use Rattle.std.proofs.lemmas.Grind.{same_number_lists}
use Rattle.std.proofs.lemmas.List.{length-replicate}
use Rattle.sheet_refs.specs.Cells.{Position, Corners}
use Rattle.sheet_refs.specs.Sizes.{cell_count, is_inside, place_of}
use Rattle.sheet_refs.specs.declared.sizes.Sizes.{Sizes}
use Rattle.sheet_refs.proofs.Places.{place_same}
use Rattle.sheet_model.specs.Sheets.{SheetValue}
use Rattle.sheet_model.specs.Edits.{EditValue}
use Rattle.edit_log.specs.Books.{client_entry}
use Rattle.edit_log.specs.Touches.{Touches, cell_at}
use Rattle.edit_script.specs.declared.script.Command.{Command}
use Rattle.edit_script.specs.declared.script.Command.TheVariants.{Put, Look, Firm, Work}
use Rattle.edit_script.specs.declared.script.Step.{Step}
use Rattle.edit_script.proofs.OneScript.{none_last, one_last}
use Rattle.sheet_model.specs.declared.report.Report.{Report}
use Rattle.play_machine.specs.Machine.{AreTurns, FollowsCommand, IsFirstCell, IsMarked, IsReady, IsTurn, Machine}
use Rattle.play_machine.specs.Machine.{MarksTouched, OneList, Plays, machine_after, mark_of, opening, report_of}
use Rattle.play_machine.specs.Machine.{with_marks, without_mark}
use Rattle.play_machine.specs.Machine.AreTurns.{none as no_turns, more as more_turns}
use Rattle.play_machine.specs.Machine.FollowsCommand.{puts, looks, settles, works}
use Rattle.play_machine.specs.Machine.IsTurn.{clears_ready, clears_marked, clears_nothing}
use Rattle.play_machine.specs.Machine.Plays.{more, none as no_steps}
use Rattle.play_machine.proofs.MarkLemmas.{mark_inside}
use Rattle.play_machine.proofs.PlayLemmas.{follows_keeps}
use Rattle.play_machine.proofs.TurnLemmas.{there, turns_length, zero_marks}

-- there is one first cell
first_one : (sizes : Sizes) (Such : Position → Type 0) (a b : Position) → IsFirstCell sizes Such a → IsFirstCell sizes Such b → a ≡ b
first_one sizes Such a b x y = go (cases_eq (place_of sizes a) (place_of sizes b)) (cases_lt (place_of sizes a) (place_of sizes b))
  where
    go : (place_of sizes a ≡ place_of sizes b) ⊎ (place_of sizes a ≡ place_of sizes b → ⊥)
        → (place_of sizes a < place_of sizes b) ⊎ (place_of sizes b ≤ place_of sizes a) → a ≡ b
    go (inl same) order = place_same sizes a b x.inside y.inside same
    go (inr differs) (inl before) = absurd (y.first a x.inside before x.such)
    go (inr differs) (inr past) = absurd (x.first b y.inside (below differs past) y.such)
      where
        below : (place_of sizes a ≡ place_of sizes b → ⊥) → place_of sizes b ≤ place_of sizes a → place_of sizes b < place_of sizes a
        below differs past = omega (arith, differs, past)

-- a turn gives one list of marks
turn_one : (sheet : SheetValue) (old a b : List ℕ) → IsTurn sheet old a → IsTurn sheet old b → a ≡ b
turn_one sheet old a b (clears_ready cell x is) (clears_ready other y also) =
    is ∙ ap (λ (c : Position). set_zero c) (first_one sheet.sizes (IsReady sheet old) cell other x y) ∙ sym also
  where
    set_zero : Position → List ℕ
    set_zero c = without_mark sheet.sizes old c
turn_one sheet old a b (clears_ready cell x is) (clears_marked other none y also) = absurd (none cell x.inside x.such)
turn_one sheet old a b (clears_ready cell x is) (clears_nothing none also) = absurd (none cell x.inside x.such.marked)
turn_one sheet old a b (clears_marked cell none x is) (clears_ready other y also) = absurd (none other y.inside y.such)
turn_one sheet old a b (clears_marked cell none x is) (clears_marked other not y also) =
    is ∙ ap (λ (c : Position). without_mark sheet.sizes old c) (first_one sheet.sizes (IsMarked sheet.sizes old) cell
    other x y) ∙ sym also
turn_one sheet old a b (clears_marked cell none x is) (clears_nothing nothing also) = absurd (nothing cell x.inside x.such)
turn_one sheet old a b (clears_nothing nothing is) (clears_ready other y also) = absurd (nothing other y.inside y.such.marked)
turn_one sheet old a b (clears_nothing nothing is) (clears_marked other none y also) = absurd (nothing other y.inside y.such)
turn_one sheet old a b (clears_nothing nothing is) (clears_nothing other also) = is ∙ sym also

-- so do some turns
turns_one : (sheet : SheetValue) (count : ℕ) (old a b : List ℕ) → AreTurns sheet count old a → AreTurns sheet count old b → a ≡ b
turns_one sheet count old a b first second = go count old a first count b second refl
  where
    go : (n : ℕ) (start x : List ℕ) → AreTurns sheet n start x → (m : ℕ) (y : List ℕ) → AreTurns sheet m start y → n ≡ m → x ≡ y
    go _ start _ (no_turns marks) _ _ (no_turns others) same = refl
    go _ start _ (no_turns marks) _ y (more_turns k next from mid new before turn is) same = absurd (omega (arith, same, is))
    go _ start x (more_turns k next from mid new before turn is) _ _ (no_turns marks) same = absurd (omega (arith, same, is))
    go _ start x (more_turns k next from mid new before turn is) _ y (more_turns j last begin between end earlier also are) same =
        let mids : mid ≡ between = go k from mid before j between earlier (omega (arith, same, is, are)) in
        turn_one sheet between x y (subst (λ ms. IsTurn sheet ms x) mids turn) also

-- and an edit
touched_one : (sheet : SheetValue) (client : ℕ) (edit : EditValue) (number : ℕ) (old a b : List ℕ)
    → length old ≡ cell_count sheet.sizes → MarksTouched sheet client edit number old a
    → MarksTouched sheet client edit number old b → a ≡ b
touched_one sheet client edit number old a b filled x y = same_number_lists a b (x.count ∙ sym y.count) at
  where
    at : (k : ℕ) → k < length a → get_or a k 0 ≡ get_or b k 0
    at k below =
        let counted = x.count ∙ filled in
        let place = there sheet.sizes k (omega (arith, below, counted)) in
        let cell = cell_at sheet.sizes k in
        ap (λ n. get_or a n 0) (sym place.1) ∙ sym (mark_inside sheet.sizes a cell place.0)
        ∙ stable (mark_of sheet.sizes a cell) (mark_of sheet.sizes b cell) (marks cell place.0)
        ∙ mark_inside sheet.sizes b cell place.0 ∙ ap (λ n. get_or b n 0) place.1
      where
        stable : (m n : ℕ) → ((m ≡ n → ⊥) → ⊥) → m ≡ n
        stable m n not = go (cases_eq m n)
          where
            go : (m ≡ n) ⊎ (m ≡ n → ⊥) → m ≡ n
            go (inl same) = same
            go (inr differs) = absurd (not differs)

        marks : (cell : Position) → IsTrue (is_inside sheet.sizes cell) → (mark_of sheet.sizes a cell ≡ mark_of sheet.sizes b cell → ⊥) → ⊥
        marks cell inside differs = differs (x.others cell spared ∙ sym (y.others cell spared))
          where
            spared : ¬ Touches sheet [] (client_entry client edit) cell
            spared touches = differs (x.touched cell inside touches ∙ sym (y.touched cell inside touches))

-- the kinds of commands differ
abbrev kind : Command → ℕ
kind (Put edit) = 0
kind (Look window) = 1
kind (Firm window) = 2
kind (Work turns) = 3

-- two commands of different kinds aren't one
other_kind : {A : Type 0} (command a b : Command) → command ≡ a → command ≡ b → (kind a ≡ kind b → ⊥) → A
other_kind command a b is also differs = absurd (differs (ap kind (sym is ∙ also)))

abbrev edit_in : Command → EditValue → EditValue
edit_in (Put edit) other = edit
edit_in (Look window) other = other
edit_in (Firm window) other = other
edit_in (Work turns) other = other

abbrev window_in : Command → Corners → Corners
window_in (Put edit) other = other
window_in (Look window) other = window
window_in (Firm window) other = window
window_in (Work turns) other = other

abbrev turns_in : Command → ℕ → ℕ
turns_in (Put edit) other = other
turns_in (Look window) other = other
turns_in (Firm window) other = other
turns_in (Work turns) other = turns

-- a machine has a mark for each cell, and so it has after each step
abbrev pub HasMarks : Machine → Type 0
HasMarks machine = length machine.marks ≡ cell_count machine.sheet.sizes

follows_marks : (old new : Machine) (client : ℕ) (command : Command) (told : List Report) → HasMarks old
    → FollowsCommand old client command new told → length new.marks ≡ length old.marks
follows_marks old new client command told filled (puts edit marks is touched new_is told_is) = ap (λ (m : Machine). length m.marks) new_is ∙ touched.count
follows_marks old new client command told filled (looks window is new_is told_is) = ap (λ (m : Machine). length m.marks) new_is
follows_marks old new client command told filled (settles window count marks is made nowhere new_is told_is) =
    ap (λ (m : Machine). length m.marks) new_is ∙ turns_length old.sheet count old.marks marks made
follows_marks old new client command told filled (works count marks is made new_is told_is) =
    ap (λ (m : Machine). length m.marks) new_is ∙ turns_length old.sheet count old.marks marks made

pub has_marks : (old new : Machine) (client : ℕ) (command : Command) (told : List Report) → HasMarks old
    → FollowsCommand old client command new told → HasMarks new
has_marks old new client command told filled follows =
    follows_marks old new client command told filled follows ∙ filled ∙ ap cell_count (sym (follows_keeps old new client command told follows).sizes)

-- a command gives one machine and one list of reports
follows_one : (old a b : Machine) (client : ℕ) (command : Command) (told others : List Report) → HasMarks old
    → FollowsCommand old client command a told → FollowsCommand old client command b others → (a ≡ b) × (told ≡ others)
follows_one old a b client command told others filled (puts edit marks is touched a_is told_is) (puts other also are same b_is others_is) =
    let edits : edit ≡ other = ap (λ c. edit_in c edit) (sym is ∙ are) in
    let lists : marks ≡ also = touched_one old.sheet client edit (old.number + 1) old.marks marks also filled touched
    (subst (λ e. MarksTouched old.sheet client e (old.number + 1) old.marks also) (sym edits) same) in
    (a_is ∙ ap₂ (λ e ms. machine_after old e ms) edits lists ∙ sym b_is, told_is ∙ sym others_is)
follows_one old a b client command told others filled (looks window is a_is told_is) (looks other are b_is others_is) =
    let windows : window ≡ other = ap (λ c. window_in c window) (sym is ∙ are) in
    (a_is ∙ sym b_is, told_is ∙ ap (λ w. report_of old false w ∷ []) windows ∙ sym others_is)
follows_one old a b client command told others filled (settles window count marks is made nowhere a_is told_is)
    (settles other counted also are done none b_is others_is) =
    let windows : window ≡ other = ap (λ c. window_in c window) (sym is ∙ are) in
    let first = turns_length old.sheet count old.marks marks made in
    let second = turns_length old.sheet counted old.marks also done in
    let lists : marks ≡ also =
    zero_marks old.sheet.sizes marks (first ∙ filled) nowhere ∙ ap (λ n. replicate n 0) (first ∙ sym second)
    ∙ sym (zero_marks old.sheet.sizes also (second ∙ filled) none) in
    let machines : a ≡ b = a_is ∙ ap (with_marks old) lists ∙ sym b_is in
    (machines, told_is ∙ ap₂ (λ m w. report_of m true w ∷ []) machines windows ∙ sym others_is)
follows_one old a b client command told others filled (works count marks is made a_is told_is) (works counted also are done b_is others_is) =
    let counts : count ≡ counted = ap (λ c. turns_in c count) (sym is ∙ are) in
    let lists : marks ≡ also = turns_one old.sheet counted old.marks marks also (subst (λ n. AreTurns old.sheet n old.marks marks) counts made) done in
    (a_is ∙ ap (with_marks old) lists ∙ sym b_is, told_is ∙ sym others_is)
follows_one old a b client command told others filled (puts edit marks is x y z) (looks w are x' y') =
    other_kind command (Put edit) (Look w) is are (λ h. absurd (omega (arith, h)))
follows_one old a b client command told others filled (puts edit marks is x y z) (settles w n ms are x' y' z' t') =
    other_kind command (Put edit) (Firm w) is are (λ h. absurd (omega (arith, h)))
follows_one old a b client command told others filled (puts edit marks is x y z) (works n ms are x' y' z') =
    other_kind command (Put edit) (Work n) is are (λ h. absurd (omega (arith, h)))
follows_one old a b client command told others filled (looks w is x y) (puts edit ms are x' y' z') =
    other_kind command (Look w) (Put edit) is are (λ h. absurd (omega (arith, h)))
follows_one old a b client command told others filled (looks w is x y) (settles v n ms are x' y' z' t') =
    other_kind command (Look w) (Firm v) is are (λ h. absurd (omega (arith, h)))
follows_one old a b client command told others filled (looks w is x y) (works n ms are x' y' z') =
    other_kind command (Look w) (Work n) is are (λ h. absurd (omega (arith, h)))
follows_one old a b client command told others filled (settles w n ms is x y z t) (puts edit ms' are x' y' z') =
    other_kind command (Firm w) (Put edit) is are (λ h. absurd (omega (arith, h)))
follows_one old a b client command told others filled (settles w n ms is x y z t) (looks v are x' y') =
    other_kind command (Firm w) (Look v) is are (λ h. absurd (omega (arith, h)))
follows_one old a b client command told others filled (settles w n ms is x y z t) (works m ms' are x' y' z') =
    other_kind command (Firm w) (Work m) is are (λ h. absurd (omega (arith, h)))
follows_one old a b client command told others filled (works n ms is x y z) (puts edit ms' are x' y' z') =
    other_kind command (Work n) (Put edit) is are (λ h. absurd (omega (arith, h)))
follows_one old a b client command told others filled (works n ms is x y z) (looks v are x' y') =
    other_kind command (Work n) (Look v) is are (λ h. absurd (omega (arith, h)))
follows_one old a b client command told others filled (works n ms is x y z) (settles v m ms' are x' y' z' t') =
    other_kind command (Work n) (Firm v) is are (λ h. absurd (omega (arith, h)))

plays_marks : (start now : Machine) (steps : List Step) (told : List Report) → HasMarks start → Plays start steps now told → HasMarks now
plays_marks start _ _ _ filled no_steps = filled
plays_marks start now steps told filled (more before all step mid last said news after plays follows is are) =
    has_marks mid now step.client step.command news (plays_marks start mid before said filled plays) follows

-- steps give one machine and one list of reports
pub plays_one : (start a b : Machine) (steps others : List Step) (told also : List Report) → HasMarks start
    → Plays start steps a told → Plays start others b also → steps ≡ others → (a ≡ b) × (told ≡ also)
plays_one start _ _ _ _ _ _ filled no_steps no_steps same = (refl, refl)
plays_one start _ b _ others _ also filled no_steps (more before all step mid last said news after plays follows is are)
    same = absurd (none_last before step (sym is ∙ sym same))
plays_one start a _ steps _ told _ filled (more before all step mid last said news after plays follows is are) no_steps
    same = absurd (none_last before step (sym is ∙ same))
plays_one start a b steps others told also filled (more before all step mid last said news after plays follows is are)
    (more earlier whole other between end spoken new_told behind first then_follows is' are') same =
    let both = one_last before earlier step other (sym is ∙ same ∙ is') in
    let middle = plays_one start mid between before earlier said spoken filled plays first both.0 in
    let also_follows : FollowsCommand mid step.client step.command b new_told =
    subst (λ (s : Step). FollowsCommand mid s.client s.command b new_told) (sym both.1)
    (subst (λ m. FollowsCommand m other.client other.command b new_told) (sym middle.0) then_follows) in
    let last_one = follows_one mid a b step.client step.command news new_told (plays_marks start mid before said filled plays) follows also_follows in
    (last_one.0, are ∙ ap₂ (λ x y. x ++ y) middle.1 last_one.1 ∙ sym are')

-- a sheet's machine has a mark for each cell when it begins
pub opening_marks : (sheet : SheetValue) → HasMarks (opening sheet)
opening_marks sheet = length-replicate (cell_count sheet.sizes) 0

pub one_list : OneList
one_list sheet steps reports others first second =
    (plays_one (opening sheet) first.0 second.0 steps steps reports others (opening_marks sheet) first.1 second.1 refl).1
