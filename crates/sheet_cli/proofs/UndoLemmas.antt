-- What `undo` is answered: the log of a script's edits is for its sheet, and one edit of it is undone in one way.
use Rattle.std.proofs.Common.{◌≡◌, ◌≢◌, ℕ, ◌+◌, ◌<◌, ◌≤◌, zero, suc, List, [], ◌∷◌, ◌++◌, length, drop, get_or, All}
use Rattle.std.proofs.Common.{refl, sym, ◌∙◌, ap, subst, arith, append_assoc}
use Rattle.std.specs.Prelude.{Err, Ok, Result}
use Rattle.std.proofs.Math.ListN.{drop_of_length-le}
use Rattle.std.proofs.lemmas.List.{append-nil, drop_more}
use Rattle.std.proofs.lemmas.List.Elements.{All-append}
use Rattle.sheet_refs.specs.Cells.{Position}
use Rattle.sheet_model.specs.Edits.{EditValue, IsFor}
use Rattle.sheet_model.specs.Sheets.{SheetValue}
use Rattle.sheet_model.specs.declared.entry.Entry.{Entry}
use Rattle.edit_script.specs.Scripts.{ScriptValue}
use Rattle.edit_script.specs.declared.script.Command.{Command}
use Rattle.edit_script.specs.declared.script.Command.TheVariants as asks
use Rattle.edit_script.specs.declared.script.Step.{Step}
use Rattle.play_machine.specs.Playing.{AreFit, IsCommandOfSheet}
use Rattle.sheet_undo.specs.Undoing.{AreFor, HasNoEntry, IsOvertaken}
use Rattle.sheet_undo.specs.declared.refused.UndoRefused.{UndoRefused}
use Rattle.sheet_undo.specs.declared.refused.UndoRefused.TheVariants as refused
use Rattle.sheet_undo.proofs.UndoLemmas.{none_numbered, one_overtaker, one_undoes}
use Rattle.window_text.specs.Changes.{batch_text}
use Rattle.sheet_cli.specs.Answers.{Answer, AnswersUndo}
use Rattle.sheet_cli.specs.Answers.Answer.{output, refusal}
use Rattle.sheet_cli.specs.Answers.AnswersUndo.{undone, no_edit, overtaken}
use Rattle.sheet_cli.specs.Lines.{overtaken_line, undo_line}
use Rattle.sheet_cli.specs.Undone.{entries_of, entry_by}

-- the entries of steps that are fit for a sheet are for it
entry_for : (sheet : SheetValue) (client : ℕ) (command : Command) → IsCommandOfSheet sheet command → AreFor sheet (entry_by client command)
entry_for sheet client (asks.Put edit) fits zero d within = fits
entry_for sheet client (asks.Put edit) fits (suc k) d within = absurd (omega (arith, within))
entry_for sheet client (asks.Look window) fits k d within = absurd (omega (arith, within))
entry_for sheet client (asks.Firm window) fits k d within = absurd (omega (arith, within))
entry_for sheet client (asks.Work turns) fits k d within = absurd (omega (arith, within))

all_for : (sheet : SheetValue) (steps : List Step) → All (λ (step : Step). IsCommandOfSheet sheet step.command) steps → AreFor sheet (entries_of steps)
all_for sheet [] fits = λ k d within. absurd (omega (arith, within))
all_for sheet (step ∷ steps) fits =
    All-append (λ (entry : Entry). IsFor sheet entry.edit) (entry_by step.client step.command) (entries_of steps)
    (entry_for sheet step.client step.command (fits 0 step (omega arith)))
    (all_for sheet steps (λ k d within. fits (suc k) d (omega (arith, within))))

pub log_fits : (sheet : SheetValue) (steps : List Step) → AreFit sheet steps → AreFor sheet (entries_of steps)
log_fits sheet steps fit = all_for sheet steps fit.each

-- ---- `undo` is answered in one way

pub one_undo : (number : ℕ) (sheet : SheetValue) (script : ScriptValue) (a b : Answer)
    → AnswersUndo number sheet script a → AnswersUndo number sheet script b → a ≡ b
one_undo number sheet script _ _ (undone edit is) (undone other re) =
    ap (λ e. output (batch_text sheet.labels e)) (one_undoes sheet (entries_of script.steps) number edit other is.undoes re.undoes)
one_undo number sheet script _ _ (undone edit is) (no_edit count none) =
    absurd (none_numbered (entries_of script.steps) number count is.undoes.entry none is.undoes.numbered)
one_undo number sheet script _ _ (undone edit is) (overtaken by cell late) = absurd (is.latest by cell late)
one_undo number sheet script _ _ (no_edit count none) (undone edit is) =
    absurd (none_numbered (entries_of script.steps) number count is.undoes.entry none is.undoes.numbered)
one_undo number sheet script _ _ (no_edit _ _) (no_edit _ _) = refl
one_undo number sheet script _ _ (no_edit count none) (overtaken by cell late) =
    absurd (none_numbered (entries_of script.steps) number count late.entry none late.numbered)
one_undo number sheet script _ _ (overtaken by cell late) (undone edit is) = absurd (is.latest by cell late)
one_undo number sheet script _ _ (overtaken by cell late) (no_edit count none) =
    absurd (none_numbered (entries_of script.steps) number count late.entry none late.numbered)
one_undo number sheet script _ _ (overtaken by cell late) (overtaken other place again) =
    let both = one_overtaker (entries_of script.steps) number by other cell place late again in
    (λ i. refusal 2 (overtaken_line number (both.0 i) (both.1 i)))

-- why an edit isn't undone, by what is found out about the log
pub not_undone : (number : ℕ) (sheet : SheetValue) (script : ScriptValue) (why : UndoRefused) (answer : Answer)
    → answer ≡ refusal 2 (undo_line number why) → why ≢ refused.Memory
    → ((count : ℕ) → why ≡ refused.NoSuchEdit count → HasNoEntry (entries_of script.steps) number count)
    → ((by : ℕ) (cell : Position) → why ≡ refused.Overtaken by cell
    → IsOvertaken (entries_of script.steps) number by cell) → AnswersUndo number sheet script answer
not_undone number sheet script (refused.NoSuchEdit count) answer is known none late =
    subst (AnswersUndo number sheet script) (sym is) (no_edit count (none count refl))
not_undone number sheet script (refused.Overtaken by cell) answer is known none late =
    subst (AnswersUndo number sheet script) (sym is) (overtaken by cell (late by cell refl))
not_undone number sheet script refused.Memory answer is known none late = absurd (known refl)

abbrev pub edit_for : EditValue → Result EditValue UndoRefused
edit_for edit = Ok edit

abbrev pub none_for : UndoRefused → Result EditValue UndoRefused
none_for why = Err why

pub edit_or_none : (edit : EditValue) (why : UndoRefused) → edit_for edit ≡ none_for why → ⊥
edit_or_none edit why same = cc

pub same_why : (a b : UndoRefused) → none_for a ≡ none_for b → a ≡ b
same_why a b same = cc

-- ---- steps one by one

-- the entries of the steps from a place on, behind those before
pub entries_more : (steps : List Step) (place : ℕ) (step : Step) (log : List Entry) → place < length steps → step ≡ get_or steps place step
    → (log ++ entry_by step.client step.command) ++ entries_of (drop (place + 1) steps) ≡ log ++ entries_of (drop place steps)
entries_more steps place step log within here =
    append_assoc log (entry_by step.client step.command) (entries_of (drop (place + 1) steps))
    ∙ ap (λ rest. log ++ rest) (sym (ap entries_of (drop_more steps place step within)
    ∙ ap (λ (s : Step). entry_by s.client s.command ++ entries_of (drop (place + 1) steps)) (sym here)))

pub entries_end : (steps : List Step) (place : ℕ) (log : List Entry) → length steps ≤ place → log ++ entries_of (drop place steps) ≡ log
entries_end steps place log past = ap (λ rest. log ++ entries_of rest) (drop_of_length-le steps past) ∙ append-nil log
