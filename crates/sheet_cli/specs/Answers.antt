-- What the program owes to its words and to the texts that they name.
use Rattle.std.specs.Prelude.{◌≡◌, ℕ, ◌<◌, ◌≤◌, ◌⊎◌, List, ◌∷◌, ◌++◌, length, Result, Ok, Err, Some, IfSome, All, IsTrue}
use Rattle.std.specs.declared.option.Option.{Option}
use Rattle.sheet_refs.specs.Cells.{Corners, Position}
use Rattle.sheet_refs.specs.Sizes.{is_inside}
use Rattle.sheet_model.specs.Edits.{EditValue}
use Rattle.sheet_model.specs.Labels.{IsTable}
use Rattle.sheet_model.specs.Sheets.{SheetValue, with_labels}
use Rattle.csv_sheet.specs.Results.{IsSheetResult}
use Rattle.csv_sheet.specs.declared.refused.SheetRefused.{SheetRefused}
use Rattle.edit_script.specs.Scripts.{ScriptValue, IsScriptResult, ground_of}
use Rattle.edit_script.specs.declared.refused.ScriptRefused.{ScriptRefused}
use Rattle.edit_script.specs.declared.script.Mode.{Mode}
use Rattle.edit_script.specs.declared.script.Mode.TheVariants.{Live as as_run, Play as as_played}
use Rattle.edit_script.specs.declared.script.Step.{Step}
use Rattle.live_gen.specs.Generated.{generated_script}
use Rattle.live_gen.specs.Rows.{IsGeneratedSheet}
use Rattle.live_gen.specs.Sums.{sheet_sum}
use Rattle.live_run.specs.Legal.{IsLegalTranscript}
use Rattle.play_machine.specs.Machine.{ArePlayed}
use Rattle.sheet_undo.specs.Undoing.{HasNoEntry, IsOvertaken}
use Rattle.window_text.specs.Changes.{batch_text}
use Rattle.window_text.specs.Reports.{play_text}
use Rattle.sheet_model.specs.declared.report.Report.{Report}
use Rattle.window_text.specs.Texts.{check_text, generated_text, show_text, runs_text}
use Rattle.sheet_model.specs.Sheets.{IsWithinSheet}
use Rattle.window_text.specs.Transcripts.{TranscriptValue, live_text}
use Rattle.edge_patterns.specs.Edges.{EdgeValue}
use Rattle.graph_walk.specs.Graphs.{Pair, SamePairs}
use Rattle.taco_graph.specs.Pairs.{pairs_of}
use Rattle.dep_path.specs.Chains.{IsShortest}
use Rattle.sheet_fill.specs.Filling.{HasNoOthers, HasTooMany}
use Rattle.sheet_cli.specs.Filled.{CanFill, HasPlaces, filled_text}
use Rattle.sheet_cli.specs.Graphs.{AreDependents, ArePrecedents, ListsEdges, ShowsPath, cells_text}
use Rattle.sheet_cli.specs.Lines.{usage_line, outside_line, too_long_line, refused_line, long_script_line, script_line}
use Rattle.sheet_cli.specs.Lines.{no_edit_line, overtaken_line, nothing_line, many_line}
use Rattle.sheet_cli.specs.Requests.{Request, texts_named}
use Rattle.sheet_cli.specs.Requests.Request.{of_window, of_check, of_script, of_path, of_fill, of_generated}
use Rattle.sheet_cli.specs.Undone.{UndoesEdit, entries_of}
use Rattle.sheet_cli.specs.Words.{Asks, AsksNothing}
use Rattle.sheet_cli.specs.declared.script.ScriptCommand.{ScriptCommand}
use Rattle.sheet_cli.specs.declared.script.ScriptCommand.TheVariants.{Live, Play, Undo}
use Rattle.sheet_cli.specs.declared.window.WindowCommand.{WindowCommand}
use Rattle.sheet_cli.specs.declared.window.WindowCommand.TheVariants.{Show, Deps, Precs}

-- what a command line is answered: the text that is written, or the status and the line of a refusal
pub data Answer : Type 0 where
  output : List ℕ → Answer
  refusal : ℕ → List ℕ → Answer

-- the status of a run that gives an answer
abbrev pub status_of : Answer → ℕ
status_of (output text) = 0
status_of (refusal status line) = status

-- the texts of a shelf by their names, of which it may tell some or none
abbrev pub Texts : Type 0
Texts = List ℕ → Option (List ℕ)

-- a text stands under a name: it is the one that the shelf tells, if it tells one, and within the limit
pub record IsTextOf (holds : Texts) (name text : List ℕ) : Type 0 where
  pub told : IfSome (holds name) (λ t. text ≡ t)
  pub short : IfSome (holds name) (λ t. length t ≤ 16777216)

-- what the text under a name gives: a sheet, or why there is none
pub record GivesSheet (holds : Texts) (name : List ℕ) (result : Result SheetValue SheetRefused) : Type 0 where
  pub text : List ℕ
  pub stands : IsTextOf holds name text
  pub gives : IsSheetResult text result

-- there is no sheet under a name, and this says why
pub data HasNoSheet (holds : Texts) (name : List ℕ) : ℕ → List ℕ → Type 0 where
  -- its text is past the limit
  too_long : IfSome (holds name) (λ t. 16777216 < length t) → HasNoSheet holds name 3 too_long_line
  -- its text is no sheet
  refused : (why : SheetRefused) → GivesSheet holds name (Err why) → HasNoSheet holds name 3 (refused_line why)

-- what a command writes of a window of a sheet
pub data Writes (sheet : SheetValue) (window : Corners) : WindowCommand → List ℕ → Type 0 where
  -- `show` writes the value of each cell
  values : Writes sheet window Show (show_text sheet window)
  -- `deps` lists the window's cells and all that depend on them
  dependents : (runs : List Corners) → AreDependents sheet window runs → Writes sheet window Deps (runs_text runs)
  -- `precs` lists the window's cells and all on which they depend
  precedents : (runs : List Corners) → ArePrecedents sheet window runs → Writes sheet window Precs (runs_text runs)

-- what is answered of the sheet under a name, or why there is none
pub data OverSheet (holds : Texts) (name : List ℕ) (Answers : SheetValue → Answer → Type 0) : Answer → Type 0 where
  over_sheet : (sheet : SheetValue) (answer : Answer) → GivesSheet holds name (Ok sheet) → Answers sheet answer
      → OverSheet holds name Answers answer
  no_sheet : (status : ℕ) (line : List ℕ) → HasNoSheet holds name status line
      → OverSheet holds name Answers (refusal status line)

-- what a command about a window of a sheet is answered
pub data AnswersWindow (command : WindowCommand) (window : Corners) (sheet : SheetValue) : Answer → Type 0 where
  -- it writes what it writes of the sheet
  written : (text : List ℕ) → IsWithinSheet window sheet → Writes sheet window command text
      → AnswersWindow command window sheet (output text)
  -- unless the window is not wholly in the sheet
  outside : ¬ IsWithinSheet window sheet → AnswersWindow command window sheet (refusal 2 outside_line)

-- what `check` is answered
pub data AnswersCheck (sheet : SheetValue) : Answer → Type 0 where
  -- it lists edges that stand for the sheet's pairs, of which no two can be joined
  listed : (text : List ℕ) → ListsEdges sheet text → AnswersCheck sheet (output text)

-- two cells are in a sheet
abbrev pub AreInSheet : SheetValue → Position → Position → Type 0
AreInSheet sheet from to = IsTrue (is_inside sheet.sizes from) × IsTrue (is_inside sheet.sizes to)

-- what `path` is answered
pub data AnswersPath (from to : Position) (sheet : SheetValue) : Answer → Type 0 where
  -- it shows how one cell comes to depend on the other
  shown : (text : List ℕ) → AreInSheet sheet from to → ShowsPath sheet from to text → AnswersPath from to sheet (output text)
  -- unless one of them is not in the sheet
  beyond : ¬ AreInSheet sheet from to → AnswersPath from to sheet (refusal 2 outside_line)

-- what `fill` is answered
pub data AnswersFill (from : Position) (to : Corners) (sheet : SheetValue) : Answer → Type 0 where
  -- it writes the edit that fills the range
  filled_range : HasPlaces from to sheet → CanFill from to → AnswersFill from to sheet (output (filled_text sheet from to))
  -- unless the cell or a part of the range is not in the sheet
  elsewhere : ¬ HasPlaces from to sheet → AnswersFill from to sheet (refusal 2 outside_line)
  -- or the range is that cell alone
  none_to_fill : HasPlaces from to sheet → HasNoOthers from to → AnswersFill from to sheet (refusal 2 nothing_line)
  -- or has more other cells than an edit may change
  many_to_fill : (count : ℕ) → HasPlaces from to sheet → ¬ HasNoOthers from to → HasTooMany from to count
      → AnswersFill from to sheet (refusal 2 many_line)

-- for whom the script of a command is written
abbrev pub mode_of : ScriptCommand → Mode
mode_of Play = as_played
mode_of (Live workers) = as_run
mode_of (Undo number) = as_played

-- what the text under a name gives as a script over a sheet, and the sheet's labels after it
pub record GivesScript (holds : Texts) (mode : Mode) (name : List ℕ) (sheet : SheetValue) (labels : List (List ℕ))
    (result : Result ScriptValue ScriptRefused) : Type 0 where
  pub text : List ℕ
  pub stands : IsTextOf holds name text
  pub gives : IsScriptResult mode (ground_of sheet) sheet.labels labels text result
  pub table : IsTable labels

-- there is no script under a name, and this says why
pub data HasNoScript (holds : Texts) (mode : Mode) (name : List ℕ) (sheet : SheetValue) : ℕ → List ℕ → Type 0 where
  -- its text is past the limit
  long_script : IfSome (holds name) (λ t. 16777216 < length t) → HasNoScript holds mode name sheet 4 long_script_line
  -- its text is no script over the sheet
  refused_script : (why : ScriptRefused) (labels : List (List ℕ)) → GivesScript holds mode name sheet labels (Err why)
      → HasNoScript holds mode name sheet 4 (script_line why)

-- what `play` writes of steps over a sheet
pub record IsPlayed (sheet : SheetValue) (steps : List Step) (text : List ℕ) : Type 0 where
  pub reports : List Report
  pub played : ArePlayed sheet steps reports
  pub text_is : text ≡ play_text sheet.labels reports

-- What `live` writes of a script over a sheet, whatever these are and however many workers there are: it prints one log
-- with each client's edits once and in order, and no others; for each look of a client, in order, a report with a number of
-- edits, which never falls for that client and covers its own earlier edits and none of its later ones; each value in a
-- report is the one that one thread computes after that many edits of the log, and a firm report shows values alone; a cell
-- whose value a client was shown waits, in a later report of that client, for a later edit alone; and the closing sheet has
-- the one-thread values after the whole log. So much is said by `IsLegalTranscript`, of the transcript whose text it is.
pub record IsLived (sheet : SheetValue) (script : ScriptValue) (text : List ℕ) : Type 0 where
  pub transcript : TranscriptValue
  pub legal : IsLegalTranscript sheet script transcript
  pub text_is : text ≡ live_text transcript

-- what is answered of the script under a name over a sheet, or why there is none
pub data OverScript (holds : Texts) (mode : Mode) (name : List ℕ) (Answers : SheetValue → ScriptValue → Answer
    → Type 0) (sheet : SheetValue) : Answer → Type 0 where
  over_script : (labels : List (List ℕ)) (script : ScriptValue) (answer : Answer)
      → GivesScript holds mode name sheet labels (Ok script) → Answers (with_labels sheet labels) script answer
      → OverScript holds mode name Answers sheet answer
  no_script : (status : ℕ) (line : List ℕ) → HasNoScript holds mode name sheet status line
      → OverScript holds mode name Answers sheet (refusal status line)

-- an answer is a text of which this holds
pub data IsText (Holds : List ℕ → Type 0) : Answer → Type 0 where
  written_text : (text : List ℕ) → Holds text → IsText Holds (output text)

-- what `undo` is answered
pub data AnswersUndo (number : ℕ) (sheet : SheetValue) (script : ScriptValue) : Answer → Type 0 where
  -- it writes the edit that undoes the one of the number
  undone : (edit : EditValue) → UndoesEdit sheet script.steps number edit
      → AnswersUndo number sheet script (output (batch_text sheet.labels edit))
  -- unless there is no edit of that number
  no_edit : (count : ℕ) → HasNoEntry (entries_of script.steps) number count
      → AnswersUndo number sheet script (refusal 2 (no_edit_line number))
  -- or a later edit changes one of its cells: the first such edit is named, and the first cell that it changes
  overtaken : (by : ℕ) (cell : Position) → IsOvertaken (entries_of script.steps) number by cell
      → AnswersUndo number sheet script (refusal 2 (overtaken_line number by cell))

-- what a command about a script is answered, over a sheet
abbrev pub AnswersScript : ScriptCommand → SheetValue → ScriptValue → Answer → Type 0
AnswersScript Play sheet script answer = IsText (IsPlayed sheet script.steps) answer
AnswersScript (Live workers) sheet script answer = IsText (IsLived sheet script) answer
AnswersScript (Undo number) sheet script answer = AnswersUndo number sheet script answer

-- What `gen` writes of a number: it prints how many edits a run of the number's sheet and script has, and the sum of the
-- numbers among the one-thread values of its closing sheet. The run is one that `live` may print.
pub record IsSummed (number : ℕ) (text : List ℕ) : Type 0 where
  pub sheet : SheetValue
  pub drawn : IsGeneratedSheet number sheet
  pub transcript : TranscriptValue
  pub legal : IsLegalTranscript sheet (generated_script number) transcript
  pub text_is : text ≡ generated_text number (length transcript.log) (sheet_sum transcript.sheet)

-- what `gen` is answered
pub data AnswersGenerated (number : ℕ) : Answer → Type 0 where
  summed : (text : List ℕ) → IsSummed number text → AnswersGenerated number (output text)

-- what a request is answered
abbrev pub AnswersRequest : Texts → Request → Answer → Type 0
AnswersRequest holds (of_window command name window) = OverSheet holds name (AnswersWindow command window)
AnswersRequest holds (of_check name) = OverSheet holds name AnswersCheck
AnswersRequest holds (of_script command name script) =
    OverSheet holds name (OverScript holds (mode_of command) script (AnswersScript command))
AnswersRequest holds (of_path name from to) = OverSheet holds name (AnswersPath from to)
AnswersRequest holds (of_fill name from to) = OverSheet holds name (AnswersFill from to)
AnswersRequest holds (of_generated number workers) = AnswersGenerated number

-- what words are answered, over the texts of a shelf
pub data Owes (words : List (List ℕ)) (holds : Texts) : Answer → Type 0 where
  -- words that are no command
  usage : AsksNothing words → Owes words holds (refusal 2 usage_line)
  -- words that ask for something
  answers : (request : Request) (answer : Answer) → Asks words request → AnswersRequest holds request answer
      → Owes words holds answer

-- the text under a name is a sheet
pub record HasGivenSheet (holds : Texts) (name : List ℕ) : Type 0 where
  pub sheet : SheetValue
  pub gives : GivesSheet holds name (Ok sheet)

-- the text under a name is due for a request: the request names it, and each text that it names before gives a sheet
pub record IsDue (holds : Texts) (request : Request) (name : List ℕ) : Type 0 where
  pub before : List (List ℕ)
  pub after : List (List ℕ)
  pub named : texts_named request ≡ before ++ name ∷ after
  pub there : All (HasGivenSheet holds) before

-- the shelf tells each text that the words name
abbrev pub TellsTexts : List (List ℕ) → Texts → Type 0
TellsTexts words holds =
    (request : Request) → Asks words request
    → All (λ name. (text : List ℕ) × (holds name ≡ Some text)) (texts_named request)

-- words ask for at most one thing
abbrev pub WordsAskForOne : Type 0
WordsAskForOne = (words : List (List ℕ)) (a b : Request) → Asks words a → Asks words b → a ≡ b

-- two texts of `check`, each with the number of its edges' pairs in front, which are the same pairs; which edges stand for them isn't said
pub record AreOfCheck (words : List (List ℕ)) (a b : Answer) : Type 0 where
  pub name : List ℕ
  pub asked : Asks words (of_check name)
  pub edges : List EdgeValue
  pub others : List EdgeValue
  pub alike : SamePairs (pairs_of edges) (pairs_of others)
  pub pairs : ℕ
  pub count : pairs ≡ length (pairs_of edges)
  pub one : a ≡ output (check_text pairs edges)
  pub other : b ≡ output (check_text pairs others)

-- two texts of `live`, of one script over one sheet; which of those that it may write a run writes, turns on its threads
pub record AreOfLive (words : List (List ℕ)) (a b : Answer) : Type 0 where
  pub workers : ℕ
  pub name : List ℕ
  pub script_name : List ℕ
  pub asked : Asks words (of_script (Live workers) name script_name)
  pub sheet : SheetValue
  pub script : ScriptValue
  pub text : List ℕ
  pub said : List ℕ
  pub lived : IsLived sheet script text
  pub again : IsLived sheet script said
  pub one : a ≡ output text
  pub other : b ≡ output said

-- two texts of `path`, each with a shortest chain from one cell to another by one sheet's pairs; which of them is shown isn't said
pub record AreOfPath (words : List (List ℕ)) (a b : Answer) : Type 0 where
  pub name : List ℕ
  pub from : Position
  pub to : Position
  pub asked : Asks words (of_path name from to)
  pub pairs : List Pair
  pub cells : List Position
  pub others : List Position
  pub shortest : IsShortest pairs from to cells
  pub again : IsShortest pairs from to others
  pub one : a ≡ output (cells_text cells)
  pub other : b ≡ output (cells_text others)

-- two answers of which a run may give either
pub data AreAlternatives (words : List (List ℕ)) (a b : Answer) : Type 0 where
  either_check : AreOfCheck words a b → AreAlternatives words a b
  either_live : AreOfLive words a b → AreAlternatives words a b
  either_path : AreOfPath words a b → AreAlternatives words a b

-- words are answered in one way, where the shelf tells the texts that they name, but for the edges that `check` lists, for
-- what `live` may write, and for which shortest chain `path` shows
abbrev pub OneAnswer : Type 0
OneAnswer =
    (words : List (List ℕ)) (holds : Texts) (a b : Answer)
    → TellsTexts words holds → Owes words holds a → Owes words holds b → (a ≡ b) ⊎ AreAlternatives words a b

-- a script over a sheet is one with which a command does what it is for: an edit that is to be undone is there, and no later
-- one changes its cells
abbrev pub CanBeDone : ScriptCommand → SheetValue → ScriptValue → Type 0
CanBeDone Play sheet script = Unit {0}
CanBeDone (Live workers) sheet script = Unit {0}
CanBeDone (Undo number) sheet script = (edit : EditValue) × UndoesEdit sheet script.steps number edit

-- a request is in order: the texts that it names give a sheet, and a script where it names one, with which the command does
-- what it is for, its window or its cells are in the sheet, and a range that it is to fill has other cells, and not too many
abbrev pub IsInOrder : Texts → Request → Type 0
IsInOrder holds (of_window command name window) =
    (sheet : SheetValue) × GivesSheet holds name (Ok sheet) × IsWithinSheet window sheet
IsInOrder holds (of_check name) = (sheet : SheetValue) × GivesSheet holds name (Ok sheet)
IsInOrder holds (of_script command name script_name) =
    (sheet : SheetValue) × (labels : List (List ℕ)) × (script : ScriptValue)
    × GivesSheet holds name (Ok sheet) × GivesScript holds (mode_of command) script_name sheet labels (Ok script)
    × CanBeDone command (with_labels sheet labels) script
IsInOrder holds (of_path name from to) =
    (sheet : SheetValue) × GivesSheet holds name (Ok sheet) × AreInSheet sheet from to
IsInOrder holds (of_fill name from to) =
    (sheet : SheetValue) × GivesSheet holds name (Ok sheet) × HasPlaces from to sheet × CanFill from to
IsInOrder holds (of_generated number workers) = Unit {0}

-- words ask for what is in order
pub record IsAccepted (words : List (List ℕ)) (holds : Texts) : Type 0 where
  pub request : Request
  pub asked : Asks words request
  pub in_order : IsInOrder holds request
