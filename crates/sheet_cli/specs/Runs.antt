-- How a run ends: its status, what it wrote and what it noted.
use Rattle.std.specs.Prelude.{◌≡◌, ℕ, List, ◌⊎◌, Ok}
use Rattle.std.specs.declared.option.Option.{Option}
use Rattle.std.specs.Io.KnownBytes.{Appends}
use Rattle.edit_script.specs.Scripts.{ScriptValue}
use Rattle.sheet_model.specs.Edits.{EditValue}
use Rattle.sheet_model.specs.Sheets.{SheetValue, with_labels}
use Rattle.window_text.specs.Changes.{batch_text}
use Rattle.sheet_refs.specs.Cells.{Corners, Position}
use Rattle.sheet_io.specs.Faults.{Rose}
use Rattle.sheet_io.specs.Sink.{AppendsPrefix}
use Rattle.sheet_cli.specs.Answers.{Answer, AreInSheet, GivesScript, GivesSheet, IsAccepted, IsDue, IsLived, IsSummed}
use Rattle.sheet_cli.specs.Answers.{Owes, TellsTexts, Texts, mode_of, status_of}
use Rattle.sheet_cli.specs.Answers.Answer.{output, refusal}
use Rattle.sheet_cli.specs.Filled.{CanFill, HasPlaces, filled_text}
use Rattle.sheet_cli.specs.Graphs.{ShowsPath}
use Rattle.sheet_cli.specs.Lines.{read_failed_line}
use Rattle.sheet_cli.specs.Requests.{Request}
use Rattle.sheet_cli.specs.Requests.Request.{of_fill, of_path, of_script, of_generated}
use Rattle.sheet_cli.specs.Undone.{UndoesEdit}
use Rattle.sheet_cli.specs.Words.{Asks}
use Rattle.sheet_cli.specs.declared.script.ScriptCommand.TheVariants.{Live, Undo}

-- all done; words or range refused; sheet refused; script refused; a fetch failed; a put failed; want of memory
abbrev pub IsStatus : ℕ → Type 0
IsStatus status = (status ≡ 0) ⊎ ((status ≡ 2) ⊎ ((status ≡ 3) ⊎ ((status ≡ 4) ⊎ ((status ≡ 5) ⊎ ((status ≡ 6) ⊎ (status ≡ 7))))))

-- a sink has taken a line whole, or a prefix of it where its faults rose
abbrev pub TakesLine : {N : Type 0} → (N → Option (List ℕ)) → (N → ℕ) → N → N → List ℕ → Type 0
TakesLine written faults old new line =
    Appends (written old) (written new) line
    ⊎ (Rose (faults old) (faults new) × AppendsPrefix (written old) (written new) line)

-- no fault of an object was counted
abbrev pub IsCalm : {O : Type 0} → (O → ℕ) → O → O → Type 0
IsCalm faults old new = ¬ Rose (faults old) (faults new)

-- out has gained the whole text that is owed
pub record HasWritten (words : List (List ℕ)) (holds : Texts) (old new : Option (List ℕ)) : Type 0 where
  pub text : List ℕ
  pub owed : Owes words holds (output text)
  pub gained : Appends old new text

-- out has gained what `live` writes of the script that stands under one name over the sheet that stands under another
pub record HasLived (holds : Texts) (workers : ℕ) (name script_name : List ℕ) (old new : Option (List ℕ)) : Type 0 where
  pub sheet : SheetValue
  pub labels : List (List ℕ)
  pub script : ScriptValue
  pub gives : GivesSheet holds name (Ok sheet)
  pub reads : GivesScript holds (mode_of (Live workers)) script_name sheet labels (Ok script)
  pub text : List ℕ
  pub lived : IsLived (with_labels sheet labels) script text
  pub gained : Appends old new text

-- so it is with words that ask for `live`, whatever the texts and the number of workers
abbrev pub LivesAsAsked : List (List ℕ) → Texts → Option (List ℕ) → Option (List ℕ) → Type 0
LivesAsAsked words holds old new =
    (workers : ℕ) (name script : List ℕ) → Asks words (of_script (Live workers) name script) → HasLived holds workers name script old new

-- out has gained what `path` shows of two cells of the sheet that stands under a name
pub record HasShown (holds : Texts) (name : List ℕ) (from to : Position) (old new : Option (List ℕ)) : Type 0 where
  pub sheet : SheetValue
  pub gives : GivesSheet holds name (Ok sheet)
  pub inside : AreInSheet sheet from to
  pub text : List ℕ
  pub shows : ShowsPath sheet from to text
  pub gained : Appends old new text

-- so it is with words that ask for `path`, whatever the text and the cells
abbrev pub ShowsAsAsked : List (List ℕ) → Texts → Option (List ℕ) → Option (List ℕ) → Type 0
ShowsAsAsked words holds old new =
    (name : List ℕ) (from to : Position) → Asks words (of_path name from to) → HasShown holds name from to old new

-- out has gained the edit that fills a range of the sheet that stands under a name with what a cell holds, as the lines of a
-- script
pub record HasFilled (holds : Texts) (name : List ℕ) (from : Position) (to : Corners) (old new : Option (List ℕ)) : Type 0 where
  pub sheet : SheetValue
  pub gives : GivesSheet holds name (Ok sheet)
  pub has : HasPlaces from to sheet
  pub can : CanFill from to
  pub gained : Appends old new (filled_text sheet from to)

-- so it is with words that ask for `fill`, whatever the text, the cell and the range
abbrev pub FillsAsAsked : List (List ℕ) → Texts → Option (List ℕ) → Option (List ℕ) → Type 0
FillsAsAsked words holds old new =
    (name : List ℕ) (from : Position) (to : Corners) → Asks words (of_fill name from to) → HasFilled holds name from to old new

-- out has gained what `gen` writes of a number
pub record HasSummed (number : ℕ) (old new : Option (List ℕ)) : Type 0 where
  pub text : List ℕ
  pub summed : IsSummed number text
  pub gained : Appends old new text

-- so it is with words that ask for `gen`, whatever the number and the number of workers
abbrev pub SumsAsAsked : List (List ℕ) → Option (List ℕ) → Option (List ℕ) → Type 0
SumsAsAsked words old new = (number workers : ℕ) → Asks words (of_generated number workers) → HasSummed number old new

-- out has gained the edit that undoes one of the edits of the script that stands under one name over the sheet that stands
-- under another, as the lines of a script
pub record HasUndone (holds : Texts) (number : ℕ) (name script_name : List ℕ) (old new : Option (List ℕ)) : Type 0 where
  pub sheet : SheetValue
  pub labels : List (List ℕ)
  pub script : ScriptValue
  pub gives : GivesSheet holds name (Ok sheet)
  pub reads : GivesScript holds (mode_of (Undo number)) script_name sheet labels (Ok script)
  pub edit : EditValue
  pub undoes : UndoesEdit (with_labels sheet labels) script.steps number edit
  pub gained : Appends old new (batch_text labels edit)

-- so it is with words that ask for `undo`, whatever the texts and the number
abbrev pub UndoesAsAsked : List (List ℕ) → Texts → Option (List ℕ) → Option (List ℕ) → Type 0
UndoesAsAsked words holds old new =
    (number : ℕ) (name script : List ℕ) → Asks words (of_script (Undo number) name script) → HasUndone holds number name script old new

-- out has gained a prefix of the text that is owed
pub record HasBegun (words : List (List ℕ)) (holds : Texts) (old new : Option (List ℕ)) : Type 0 where
  pub text : List ℕ
  pub owed : Owes words holds (output text)
  pub gained : AppendsPrefix old new text

-- the words, or a text that they name, are refused with this status, and a line of which Noted holds says why
pub record IsRefused (words : List (List ℕ)) (holds : Texts) (status : ℕ) (Noted : List ℕ → Type 0) : Type 0 where
  pub line : List ℕ
  pub owed : Owes words holds (refusal status line)
  pub noted : Noted line

-- a text is due for what the words ask for, and a line of which Noted holds says that it was not fetched
pub record IsUnfetched (words : List (List ℕ)) (holds : Texts) (Noted : List ℕ → Type 0) : Type 0 where
  pub request : Request
  pub name : List ℕ
  pub asked : Asks words request
  pub due : IsDue holds request name
  pub noted : Noted (read_failed_line name)

-- where the shelf tells the texts that the words name, the status is that of what is owed, or memory ran out
abbrev pub IsComplete : List (List ℕ) → Texts → ℕ → Type 0
IsComplete words holds status =
    (answer : Answer) → TellsTexts words holds → Owes words holds answer → (status ≡ status_of answer) ⊎ (status ≡ 7)

-- the same of refusals alone
abbrev pub RefusesAll : List (List ℕ) → Texts → ℕ → Type 0
RefusesAll words holds status =
    (given : ℕ) (line : List ℕ) → TellsTexts words holds → Owes words holds (refusal given line)
    → (status ≡ given) ⊎ (status ≡ 7)

-- where the shelf tells the texts, and what the words ask for is in order, all is done or memory ran out
abbrev pub AcceptsAll : List (List ℕ) → Texts → ℕ → Type 0
AcceptsAll words holds status = TellsTexts words holds → IsAccepted words holds → (status ≡ 0) ⊎ (status ≡ 7)
