-- What a script is, and why a text is none.
use Rattle.std.specs.Prelude.{◌≡◌, ◌⊎◌, ℕ, ◌+◌, ◌*◌, ◌<◌, ◌≤◌, List, [], ◌∷◌, ◌++◌, length, slice_get, Option, Some}
use Rattle.std.specs.Prelude.{None, MatchOption, All, AllPairs, ◌≢◌, fold, flat_map, codes, Contains, IsTrue, Result}
use Rattle.std.specs.Prelude.{Ok, Err}
use Rattle.std.specs.Fmt.{decimal}
use Rattle.sheet_refs.specs.Cells.{Position, Corners, IsIn, height, width}
use Rattle.sheet_refs.specs.declared.sizes.Sizes.{Sizes}
use Rattle.sheet_refs.specs.Sizes.{is_inside}
use Rattle.value_core.specs.declared.value.Value.TheVariants.{Empty}
use Rattle.formula_syntax.specs.declared.edition.Edition.{Edition}
use Rattle.formula_syntax.specs.Spelling.{HasTooManyRefs}
use Rattle.sheet_model.specs.Changes.{ChangeValue}
use Rattle.sheet_model.specs.Edits.{EditValue}
use Rattle.sheet_model.specs.Fields.{IsContent, IsDeepFormula}
use Rattle.sheet_model.specs.Labels.{IsTable, with_label}
use Rattle.sheet_model.specs.Sheets.{ContentValue, Constant, SheetValue}
use Rattle.sheet_model.specs.Tables.{AddsLabels}
use Rattle.edit_script.specs.Lines.{LineValue, Skip, Client, Set, Clear, Look, Firm, Work, Batch, End, Says, script_lines}
use Rattle.edit_script.specs.declared.script.Mode.{Mode}
use Rattle.edit_script.specs.declared.script.Step.{Step}
use Rattle.edit_script.specs.declared.script.Command.{Command}
use Rattle.edit_script.specs.declared.script.Command.TheVariants as asks
use Rattle.edit_script.specs.declared.refused.ScriptRefused.{ScriptRefused}
use Rattle.edit_script.specs.declared.refused.ScriptRefused.TheVariants.{BadLine, OutOfSheet, CellTwice, BatchTooLarge}
use Rattle.edit_script.specs.declared.refused.ScriptRefused.TheVariants.{TooManyClients, WindowTooLarge, TooManyEdits}
use Rattle.edit_script.specs.declared.refused.ScriptRefused.TheVariants.{FormulaTooDeep, TooManyRefs, Memory}

-- of a sheet what the meaning of a script depends on beside its labels: its sizes, and the edition of its functions
pub record Ground : Type 0 where
  pub sizes : Sizes
  pub edition : Edition

abbrev pub ground_of : SheetValue → Ground
ground_of sheet = record { sizes = sheet.sizes; edition = sheet.edition }

-- the clients by name, in the order of their first places, and the steps, in that of the file
pub record ScriptValue : Type 0 where
  pub names : List (List ℕ)
  pub steps : List Step

-- what the lines up to a place have brought: whose commands follow, the clients by name, how many cells all windows
-- have, how many edits there are, and the cells that the open batch changes, where one is open
pub record Brought : Type 0 where
  pub client : List ℕ
  pub names : List (List ℕ)
  pub cells : ℕ
  pub edits : ℕ
  pub batch : Option (List Position)

-- before the first line commands belong to `main`, which is no client before it has one
abbrev pub nothing_yet : Brought
nothing_yet = record { client = codes "main"; names = []; cells = 0; edits = 0; batch = None }

-- a client that is named, and one that has a command, are among the clients from then on
abbrev pub with_client : Brought → List ℕ → Brought
with_client now name = record { client = name; names = with_label now.names name; cells = now.cells; edits = now.edits; batch = now.batch }

abbrev pub window_cells : Corners → ℕ
window_cells range = height range * width range

-- an edit more, and a window more
abbrev pub with_edit : Brought → Brought
with_edit now = record now { edits = now.edits + 1 }

abbrev pub with_window : Brought → Corners → Brought
with_window now range = record now { cells = now.cells + window_cells range }

-- another batch, or none
abbrev pub with_batch : Brought → Option (List Position) → Brought
with_batch now cells = record now { batch = cells }

-- a change is one of the open batch; where none is open it is an edit of the client whose commands follow
abbrev pub with_change : Option (List Position) → Brought → Position → Brought
with_change None now cell = with_edit (with_client now now.client)
with_change (Some cells) now cell = with_batch now (Some (cells ++ cell ∷ []))

-- and with what a line brings; a batch is an edit from its first line on, and a command of the client at its end
abbrev pub with_line : Brought → LineValue → Brought
with_line now Skip = now
with_line now (Client name) = with_client now name
with_line now (Set cell content) = with_change now.batch now cell
with_line now (Clear cell) = with_change now.batch now cell
with_line now (Look range) = with_window (with_client now now.client) range
with_line now (Firm range) = with_window (with_client now now.client) range
with_line now (Work turns) = with_client now now.client
with_line now Batch = with_batch (with_edit now) (Some [])
with_line now End = with_batch (with_client now now.client) None

abbrev pub brought_by : List LineValue → Brought
brought_by lines = fold with_line nothing_yet lines

-- within a batch stand changes alone, and lines that say nothing; its end has a change before it, and a batch
abbrev pub IsMisplacedIn : List Position → LineValue → Type 0
IsMisplacedIn cells Skip = ⊥
IsMisplacedIn cells (Set cell content) = ⊥
IsMisplacedIn cells (Clear cell) = ⊥
IsMisplacedIn cells End = cells ≡ []
IsMisplacedIn cells _ = Unit {0}

abbrev pub IsMisplacedAlone : LineValue → Type 0
IsMisplacedAlone End = Unit {0}
IsMisplacedAlone _ = ⊥

abbrev pub IsMisplaced : Brought → LineValue → Type 0
IsMisplaced now line = MatchOption now.batch (IsMisplacedAlone line) (λ cells. IsMisplacedIn cells line)

-- a part of the range lies outside the sheet
abbrev pub IsPartOutside : Sizes → Corners → Type 0
IsPartOutside sizes range = (cell : Position) × IsIn cell range × ¬ IsTrue (is_inside sizes cell)

-- the line names a cell outside the sheet, or a range with a part outside it
abbrev pub LeavesSheet : Sizes → LineValue → Type 0
LeavesSheet sizes (Set cell content) = ¬ IsTrue (is_inside sizes cell)
LeavesSheet sizes (Clear cell) = ¬ IsTrue (is_inside sizes cell)
LeavesSheet sizes (Look range) = IsPartOutside sizes range
LeavesSheet sizes (Firm range) = IsPartOutside sizes range
LeavesSheet sizes _ = ⊥

-- the open batch changes the cell already, or has as many changes as may be
abbrev pub IsInBatch : Brought → Position → Type 0
IsInBatch now cell = MatchOption now.batch ⊥ (λ cells. Contains cells cell)

abbrev pub IsBatchFull : Brought → Type 0
IsBatchFull now = MatchOption now.batch ⊥ (λ cells. 1024 ≤ length cells)

-- the line changes a cell that an earlier one of the same batch changes
abbrev pub IsCellTwice : Brought → LineValue → Type 0
IsCellTwice now (Set cell content) = IsInBatch now cell
IsCellTwice now (Clear cell) = IsInBatch now cell
IsCellTwice now _ = ⊥

-- the line is change 1025 of its batch
abbrev pub IsChangeTooMany : Brought → LineValue → Type 0
IsChangeTooMany now (Set cell content) = IsBatchFull now
IsChangeTooMany now (Clear cell) = IsBatchFull now
IsChangeTooMany now _ = ⊥

-- the line names a 33rd client
abbrev pub IsClientTooMany : Brought → LineValue → Type 0
IsClientTooMany now (Client name) = (32 ≤ length now.names) × ¬ Contains now.names name
IsClientTooMany now _ = ⊥

-- a window of more than 65536 cells, or one with which all windows have more than 4194304
abbrev pub IsLargeWindow : Brought → Corners → Type 0
IsLargeWindow now range = (65536 < window_cells range) ⊎ (4194304 < now.cells + window_cells range)

abbrev pub IsWindowTooLarge : Brought → LineValue → Type 0
IsWindowTooLarge now (Look range) = IsLargeWindow now range
IsWindowTooLarge now (Firm range) = IsLargeWindow now range
IsWindowTooLarge now _ = ⊥

-- there are as many edits as may be; a change of an open batch is none
abbrev pub AreEditsFull : Brought → Type 0
AreEditsFull now = 1048576 ≤ now.edits

abbrev pub IsChangeEditTooMany : Brought → Type 0
IsChangeEditTooMany now = MatchOption now.batch (AreEditsFull now) (λ cells. ⊥)

-- the line is edit 1048577
abbrev pub IsEditTooMany : Brought → LineValue → Type 0
IsEditTooMany now (Set cell content) = IsChangeEditTooMany now
IsEditTooMany now (Clear cell) = IsChangeEditTooMany now
IsEditTooMany now Batch = AreEditsFull now
IsEditTooMany now _ = ⊥

-- what is to stand in a cell is a formula that is refused
abbrev pub IsDeepEdit : LineValue → Type 0
IsDeepEdit (Set cell content) = IsDeepFormula content
IsDeepEdit _ = ⊥

abbrev pub HasManyRefs : Edition → LineValue → Type 0
HasManyRefs edition (Set cell content) = HasTooManyRefs edition content
HasManyRefs edition _ = ⊥

-- the cause of each refusal of a line behind those that brought so much
abbrev pub HasCause : Ground → Brought → LineValue → ScriptRefused → Type 0
HasCause ground now line (BadLine number) = IsMisplaced now line
HasCause ground now line (OutOfSheet number) = LeavesSheet ground.sizes line
HasCause ground now line (CellTwice number) = IsCellTwice now line
HasCause ground now line (BatchTooLarge number) = IsChangeTooMany now line
HasCause ground now line (TooManyClients number) = IsClientTooMany now line
HasCause ground now line (WindowTooLarge number) = IsWindowTooLarge now line
HasCause ground now line (TooManyEdits number) = IsEditTooMany now line
HasCause ground now line (FormulaTooDeep number) = IsDeepEdit line
HasCause ground now line (TooManyRefs number) = HasManyRefs ground.edition line
HasCause ground now line Memory = ⊥

-- the place of a refusal in the order in which causes are looked for
abbrev pub place_in_order : ScriptRefused → ℕ
place_in_order (BadLine number) = 0
place_in_order (OutOfSheet number) = 1
place_in_order (CellTwice number) = 2
place_in_order (BatchTooLarge number) = 3
place_in_order (TooManyClients number) = 4
place_in_order (WindowTooLarge number) = 5
place_in_order (TooManyEdits number) = 6
place_in_order (FormulaTooDeep number) = 7
place_in_order (TooManyRefs number) = 8
place_in_order Memory = 9

-- nothing is wrong with the line behind those that brought so much
abbrev pub IsAllowed : Ground → Brought → LineValue → Type 0
IsAllowed ground now line = (why : ScriptRefused) → ¬ HasCause ground now line why

-- why a line is refused behind those that brought so much, by the first of its causes
pub record IsLineFault (ground : Ground) (now : Brought) (line : LineValue) (why : ScriptRefused) : Type 0 where
  pub cause : HasCause ground now line why
  pub first : (earlier : ScriptRefused) → place_in_order earlier < place_in_order why → ¬ HasCause ground now line earlier

-- what a line says is refused so
pub record IsFaultyLine (mode : Mode) (ground : Ground) (now : Brought) (text : List ℕ) (why : ScriptRefused) : Type 0 where
  pub line : LineValue
  pub says : Says mode text line
  pub fault : IsLineFault ground now line why

-- why a text is refused as the next line: it says none, or one that is refused
abbrev pub IsFault : Mode → Ground → Brought → List ℕ → ScriptRefused → Type 0
IsFault mode ground now text (BadLine number) = ((line : LineValue) → ¬ Says mode text line) ⊎ IsFaultyLine mode ground now text (BadLine number)
IsFault mode ground now text why = IsFaultyLine mode ground now text why

-- the line at which a script is refused, from 1
abbrev pub line_number : ScriptRefused → ℕ
line_number (BadLine number) = number
line_number (OutOfSheet number) = number
line_number (CellTwice number) = number
line_number (BatchTooLarge number) = number
line_number (TooManyClients number) = number
line_number (WindowTooLarge number) = number
line_number (TooManyEdits number) = number
line_number (FormulaTooDeep number) = number
line_number (TooManyRefs number) = number
line_number Memory = 0

-- the texts say these lines, and nothing is wrong with any of them
pub data AreLines (mode : Mode) (ground : Ground) : List (List ℕ) → List LineValue → Type 0 where
  none : AreLines mode ground [] []
  more : (texts all : List (List ℕ)) (text : List ℕ) (lines known : List LineValue) (line : LineValue)
      → AreLines mode ground texts lines → Says mode text line → IsAllowed ground (brought_by lines) line
      → all ≡ texts ++ text ∷ [] → known ≡ lines ++ line ∷ [] → AreLines mode ground all known

-- the command is the last step now, and belongs to the client whose commands follow
pub record AddsCommand (command : Command) (now : Brought) (old new : List Step) : Type 0 where
  pub client : ℕ
  pub place : slice_get now.names client ≡ Some now.client
  pub added : new ≡ old ++ record { client = client; command = command } ∷ []

-- a change of a cell
abbrev pub change_of : Position → ContentValue → ChangeValue
change_of cell content = record { cell = cell; content = content }

-- a change is one more of the open batch, or an edit by itself where none is open
abbrev pub MakesChange : Brought → ChangeValue → Option EditValue → Option EditValue → List Step → List Step → Type 0
MakesChange now change None after old new = (after ≡ None) × AddsCommand (asks.Put (change ∷ [])) now old new
MakesChange now change (Some changes) after old new = (after ≡ Some (changes ++ change ∷ [])) × (new ≡ old)

-- what a line does to the changes of the open batch and to the steps, beside a table of labels; the changes of a batch are
-- one edit at its end, in their order
abbrev pub GoesOn : Edition → List (List ℕ) → Brought → LineValue → Option EditValue → Option EditValue → List Step → List Step → Type 0
GoesOn edition labels now Skip before after old new = (after ≡ before) × (new ≡ old)
GoesOn edition labels now (Client name) before after old new = (after ≡ before) × (new ≡ old)
GoesOn edition labels now (Set cell text) before after old new = (content : ContentValue)
    × IsContent edition labels text content × MakesChange now (change_of cell content) before after old new
GoesOn edition labels now (Clear cell) before after old new = MakesChange now (change_of cell (Constant Empty)) before after old new
GoesOn edition labels now (Look range) before after old new = (after ≡ before) × AddsCommand (asks.Look range) now old new
GoesOn edition labels now (Firm range) before after old new = (after ≡ before) × AddsCommand (asks.Firm range) now old new
GoesOn edition labels now (Work turns) before after old new = (after ≡ before) × AddsCommand (asks.Work turns) now old new
GoesOn edition labels now Batch before after old new = (after ≡ Some []) × (new ≡ old)
GoesOn edition labels now End before after old new = (changes : EditValue) × (before ≡ Some changes) × (after ≡ None)
    × AddsCommand (asks.Put changes) now old new

-- the steps of lines, in order, and the changes of the batch that is open behind them
pub data AreSteps (edition : Edition) (labels : List (List ℕ)) : List LineValue → Option EditValue → List Step → Type 0 where
  none : AreSteps edition labels [] None []
  more : (lines known : List LineValue) (line : LineValue) (before after : Option EditValue) (steps all : List Step)
      → AreSteps edition labels lines before steps → GoesOn edition labels (brought_by known) line before after steps all
      → known ≡ lines ++ line ∷ [] → AreSteps edition labels known after all

-- what the cells that are set are to hold, as texts
abbrev pub set_text : LineValue → List (List ℕ)
set_text (Set cell text) = text ∷ []
set_text _ = []

abbrev pub set_texts : List LineValue → List (List ℕ)
set_texts lines = flat_map set_text lines

-- a batch begins at a line, from 1, and isn't ended behind it
pub record IsBegun (lines : List LineValue) (number : ℕ) : Type 0 where
  pub before : List LineValue
  pub behind : List LineValue
  pub split : lines ≡ before ++ Batch ∷ behind
  pub count : number ≡ length before + 1
  pub no_end : ¬ Contains behind End
  pub no_batch : ¬ Contains behind Batch

-- the script of a text, over what a sheet gives, and its labels before and after
pub record IsScript (mode : Mode) (ground : Ground) (old new : List (List ℕ)) (text : List ℕ) (script : ScriptValue) : Type 0 where
  pub lines : List LineValue
  pub said : AreLines mode ground (script_lines text) lines
  pub names : script.names ≡ (brought_by lines).names
  pub ended : (number : ℕ) → ¬ IsBegun lines number
  pub steps : AreSteps ground.edition new lines None script.steps
  pub labels : AddsLabels (set_texts lines) old new

-- the first line that is refused, and why; the labels after it are those of the lines before it
pub record IsFirstFault (mode : Mode) (ground : Ground) (old new : List (List ℕ)) (text : List ℕ) (why : ScriptRefused) : Type 0 where
  pub before : List (List ℕ)
  pub line : List ℕ
  pub behind : List (List ℕ)
  pub lines : List LineValue
  pub all : script_lines text ≡ before ++ line ∷ behind
  pub said : AreLines mode ground before lines
  pub number : line_number why ≡ length before + 1
  pub fault : IsFault mode ground (brought_by lines) line why
  pub labels : AddsLabels (set_texts lines) old new

-- no line is refused, and the script ends within the batch that begins at a line
pub record IsUnended (mode : Mode) (ground : Ground) (old new : List (List ℕ)) (text : List ℕ) (number : ℕ) : Type 0 where
  pub lines : List LineValue
  pub said : AreLines mode ground (script_lines text) lines
  pub begun : IsBegun lines number
  pub labels : AddsLabels (set_texts lines) old new

-- why a text is no script: the first line with a fault; or, where no line has one, the batch in which it ends
pub data IsRefused (mode : Mode) (ground : Ground) (old new : List (List ℕ)) (text : List ℕ) (why : ScriptRefused) : Type 0 where
  at_line : IsFirstFault mode ground old new text why → IsRefused mode ground old new text why
  unended : (number : ℕ) → why ≡ BadLine number → IsUnended mode ground old new text number → IsRefused mode ground old new text why

-- what a text gives: a script and the labels after it, or the first refusal
abbrev pub IsScriptResult : Mode → Ground → List (List ℕ) → List (List ℕ) → List ℕ → Result ScriptValue ScriptRefused → Type 0
IsScriptResult mode ground old new text (Ok script) = IsScript mode ground old new text script
IsScriptResult mode ground old new text (Err why) = IsRefused mode ground old new text why

-- over a table of labels a text gives one thing, and leaves one table
abbrev pub OneScriptResult : Type 0
OneScriptResult =
    (mode : Mode) (ground : Ground) (old new other : List (List ℕ)) (text : List ℕ) (a b : Result ScriptValue ScriptRefused)
    → IsTable new → IsScriptResult mode ground old new text a → IsScriptResult mode ground old other text b → (a ≡ b) × (new ≡ other)

-- the names of a script are distinct, and each of its steps belongs to one of them
pub record IsWholeScript (script : ScriptValue) : Type 0 where
  pub distinct : AllPairs (λ a b. a ≢ b) script.names
  pub clients : All (λ step. step.client < length script.names) script.steps

-- a refusal in words
abbrev pub fault_text : ℕ → List ℕ → List ℕ
fault_text number fault = codes "script: line " ++ (decimal number ++ (codes ": " ++ fault))

abbrev pub script_refusal_text : ScriptRefused → List ℕ
script_refusal_text (BadLine number) = fault_text number (codes "bad line")
script_refusal_text (OutOfSheet number) = fault_text number (codes "cell outside the sheet")
script_refusal_text (CellTwice number) = fault_text number (codes "cell twice in a batch")
script_refusal_text (BatchTooLarge number) = fault_text number (codes "batch too large")
script_refusal_text (TooManyClients number) = fault_text number (codes "too many clients")
script_refusal_text (WindowTooLarge number) = fault_text number (codes "window too large")
script_refusal_text (TooManyEdits number) = fault_text number (codes "too many edits")
script_refusal_text (FormulaTooDeep number) = fault_text number (codes "formula too deep")
script_refusal_text (TooManyRefs number) = fault_text number (codes "too many references")
script_refusal_text Memory = codes "out of memory"
