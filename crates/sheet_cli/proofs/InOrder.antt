-- What is in order is not refused.
use Rattle.std.proofs.Common.{◌≡◌, ℕ, List, [], All, refl, subst, arith}
use Rattle.std.specs.Prelude.{Option, Some, Ok}
use Rattle.sheet_refs.specs.Cells.{Corners, Position}
use Rattle.sheet_model.specs.Edits.{EditValue}
use Rattle.sheet_model.specs.Sheets.{SheetValue, with_labels}
use Rattle.sheet_undo.proofs.UndoLemmas.{none_numbered}
use Rattle.window_text.specs.Changes.{batch_text}
use Rattle.sheet_model.specs.Sheets.{IsWithinSheet}
use Rattle.edit_script.specs.Scripts.{ScriptValue}
use Rattle.edit_script.specs.declared.script.Mode.{Mode}
use Rattle.sheet_cli.specs.Answers.{Answer, AnswersRequest, AnswersWindow, AnswersCheck, AnswersFill, AnswersGenerated}
use Rattle.sheet_cli.specs.Answers.{AnswersPath, AnswersScript, AreInSheet, GivesScript, GivesSheet, IsAccepted}
use Rattle.sheet_cli.specs.Answers.{IsInOrder, OverScript, OverSheet, Owes, TellsTexts, mode_of, AnswersUndo, CanBeDone}
use Rattle.sheet_cli.specs.Answers.{IsLived, IsPlayed, IsText}
use Rattle.sheet_cli.specs.Answers.Answer.{output, refusal}
use Rattle.sheet_cli.specs.Answers.AnswersWindow.{written, outside}
use Rattle.sheet_cli.specs.Answers.AnswersCheck.{listed}
use Rattle.sheet_cli.specs.Answers.AnswersFill.{filled_range, elsewhere, none_to_fill, many_to_fill}
use Rattle.sheet_cli.specs.Answers.AnswersPath.{shown, beyond}
use Rattle.sheet_cli.specs.Answers.AnswersUndo.{undone, no_edit, overtaken}
use Rattle.sheet_cli.specs.Answers.IsText.{written_text}
use Rattle.sheet_cli.specs.Answers.OverSheet.{over_sheet, no_sheet}
use Rattle.sheet_cli.specs.Answers.OverScript.{over_script, no_script}
use Rattle.sheet_cli.specs.Answers.AnswersGenerated.{summed}
use Rattle.sheet_cli.specs.Answers.Owes.{usage, answers}
use Rattle.sheet_cli.specs.Filled.{CanFill, HasPlaces, filled_text}
use Rattle.sheet_cli.specs.Requests.{Request, texts_named}
use Rattle.sheet_cli.specs.Requests.Request.{of_window, of_check, of_script, of_path, of_fill, of_generated}
use Rattle.sheet_cli.specs.Undone.{UndoesEdit, entries_of}
use Rattle.sheet_cli.specs.declared.script.ScriptCommand.{ScriptCommand}
use Rattle.sheet_cli.specs.declared.script.ScriptCommand.TheVariants.{Live, Play, Undo}
use Rattle.sheet_cli.specs.declared.window.WindowCommand.{WindowCommand}
use Rattle.sheet_cli.proofs.OneAnswer.{one_sheet, script_one, script_or_none, sheet_or_none}
use Rattle.sheet_cli.proofs.WordLemmas.{one_request}

abbrev IsRefusal : Answer → Type 0
IsRefusal answer = (status : ℕ) × (line : List ℕ) × (answer ≡ refusal status line)

no_output : (text : List ℕ) → IsRefusal (output text) → ⊥
no_output text refused = absurd (never refused.0 refused.1 refused.2)
  where
    never : (status : ℕ) (line : List ℕ) → output text ≡ refusal status line → ⊥
    never status line is = cc

-- over a sheet that is given, what is answered is what is answered of the sheet
module _ (holds : List ℕ → Option (List ℕ)) (name told : List ℕ) (here : holds name ≡ Some told) (sheet : SheetValue)
    (gives : GivesSheet holds name (Ok sheet)) where
  in_over : (P : SheetValue → Answer → Type 0) → ((answer : Answer) → IsRefusal answer → P sheet answer → ⊥)
      → (answer : Answer) → IsRefusal answer → OverSheet holds name P answer → ⊥
  in_over P never _ refused (over_sheet other answer regives given) =
      never answer refused (subst (λ s. P s answer) (one_sheet holds name told here other sheet regives gives) given)
  in_over P never _ refused (no_sheet status line none) = sheet_or_none holds name told here sheet status line gives none

module _ (holds : List ℕ → Option (List ℕ)) (mode : Mode) (name told : List ℕ) (here : holds name ≡ Some told)
    (sheet : SheetValue) (labels : List (List ℕ)) (script : ScriptValue) (gives : GivesScript holds mode name sheet
    labels (Ok script)) where
  in_over_script : (P : SheetValue → ScriptValue → Answer → Type 0) → ((answer : Answer) → IsRefusal answer
      → P (with_labels sheet labels) script answer → ⊥) → (answer : Answer) → IsRefusal answer
      → OverScript holds mode name P sheet answer → ⊥
  in_over_script P never _ refused (over_script others another answer regives given) =
      let both = script_one holds name told here mode sheet others labels (Ok another) (Ok script) regives gives in
      let scripts : another ≡ script = cc both.0 in
      never answer refused (subst (λ (s : ScriptValue). P (with_labels sheet labels) s answer) scripts
      (subst (λ ls. P (with_labels sheet ls) another answer) both.1 given))
  in_over_script P never _ refused (no_script status line none) = script_or_none holds name told here mode sheet labels script status line gives none

in_window : (command : WindowCommand) (window : Corners) (sheet : SheetValue) → IsWithinSheet window sheet
    → (answer : Answer) → IsRefusal answer → AnswersWindow command window sheet answer → ⊥
in_window command window sheet within _ refused (written text _ _) = no_output text refused
in_window command window sheet within _ refused (outside past) = past within

in_check : (sheet : SheetValue) (answer : Answer) → IsRefusal answer → AnswersCheck sheet answer → ⊥
in_check sheet _ refused (listed text _) = no_output text refused

in_path : (from to : Position) (sheet : SheetValue) → AreInSheet sheet from to → (answer : Answer) → IsRefusal answer → AnswersPath from to sheet answer → ⊥
in_path from to sheet inside _ refused (shown text _ _) = no_output text refused
in_path from to sheet inside _ refused (beyond past) = past inside

in_fill : (from : Position) (to : Corners) (sheet : SheetValue) → HasPlaces from to sheet → CanFill from to
    → (answer : Answer) → IsRefusal answer → AnswersFill from to sheet answer → ⊥
in_fill from to sheet has can _ refused (filled_range _ _) = no_output (filled_text sheet from to) refused
in_fill from to sheet has can _ refused (elsewhere past) = past has
in_fill from to sheet has can _ refused (none_to_fill _ none) = can.some none
in_fill from to sheet has can _ refused (many_to_fill count _ _ many) = can.few count many

in_text : (Holds : List ℕ → Type 0) (answer : Answer) → IsRefusal answer → IsText Holds answer → ⊥
in_text Holds _ refused (written_text text _) = no_output text refused

in_undo : (number : ℕ) (sheet : SheetValue) (script : ScriptValue) (edit : EditValue)
    → UndoesEdit sheet script.steps number edit → (answer : Answer) → IsRefusal answer
    → AnswersUndo number sheet script answer → ⊥
in_undo number sheet script edit is _ refused (undone other _) = no_output (batch_text sheet.labels other) refused
in_undo number sheet script edit is _ refused (no_edit count none) =
    none_numbered (entries_of script.steps) number count is.undoes.entry none is.undoes.numbered
in_undo number sheet script edit is _ refused (overtaken by cell late) = is.latest by cell late

in_script : (command : ScriptCommand) (sheet : SheetValue) (script : ScriptValue) → CanBeDone command sheet script
    → (answer : Answer) → IsRefusal answer → AnswersScript command sheet script answer → ⊥
in_script Play sheet script can answer refused given = in_text (IsPlayed sheet script.steps) answer refused given
in_script (Live workers) sheet script can answer refused given = in_text (IsLived sheet script) answer refused given
in_script (Undo number) sheet script can answer refused given = in_undo number sheet script can.0 can.1 answer refused given

in_generated : (number : ℕ) (answer : Answer) → IsRefusal answer → AnswersGenerated number answer → ⊥
in_generated number _ refused (summed text sums) = no_output text refused

in_order : (holds : List ℕ → Option (List ℕ)) (request : Request) (answer : Answer)
    → All (λ name. (text : List ℕ) × (holds name ≡ Some text)) (texts_named request) → IsInOrder holds request
    → IsRefusal answer → AnswersRequest holds request answer → ⊥
in_order holds (of_window command name window) answer tells (sheet, gives, within) refused given =
    let (told, here) = tells 0 [] (omega arith) in
    in_over holds name told here sheet gives (AnswersWindow command window) (in_window command window sheet within) answer refused given
in_order holds (of_check name) answer tells (sheet, gives) refused given =
    let (told, here) = tells 0 [] (omega arith) in
    in_over holds name told here sheet gives AnswersCheck (in_check sheet) answer refused given
in_order holds (of_script command name script_name) answer tells (sheet, labels, script, gives, script_gives, can) refused given =
    let (told, here) = tells 0 [] (omega arith) in
    let (spoken, there) = tells 1 [] (omega arith) in
    in_over holds name told here sheet gives (OverScript holds (mode_of command) script_name (AnswersScript command))
    (in_over_script holds (mode_of command) script_name spoken there sheet labels script script_gives
    (AnswersScript command) (in_script command (with_labels sheet labels) script can)) answer refused given
in_order holds (of_path name from to) answer tells (sheet, gives, inside) refused given =
    let (told, here) = tells 0 [] (omega arith) in
    in_over holds name told here sheet gives (AnswersPath from to) (in_path from to sheet inside) answer refused given
in_order holds (of_fill name from to) answer tells (sheet, gives, has, can) refused given =
    let (told, here) = tells 0 [] (omega arith) in
    in_over holds name told here sheet gives (AnswersFill from to) (in_fill from to sheet has can) answer refused given
in_order holds (of_generated number workers) answer tells given_order refused given = in_generated number answer refused given

owed_in_order : (words : List (List ℕ)) (holds : List ℕ → Option (List ℕ)) (answer : Answer) → TellsTexts words holds
    → IsAccepted words holds → IsRefusal answer → Owes words holds answer → ⊥
owed_in_order words holds _ tells accepted refused (usage none) = none accepted.request accepted.asked
owed_in_order words holds _ tells accepted refused (answers request answer asked given) =
    in_order holds request answer (tells request asked)
    (subst (IsInOrder holds) (one_request words accepted.request request accepted.asked asked) accepted.in_order)
    refused given

pub accepted_not_refused : (words : List (List ℕ)) (holds : List ℕ → Option (List ℕ)) (status : ℕ) (line : List ℕ)
    → TellsTexts words holds → IsAccepted words holds → Owes words holds (refusal status line) → ⊥
accepted_not_refused words holds status line tells accepted owed = owed_in_order words holds (refusal status line) tells accepted (status, line, refl) owed
