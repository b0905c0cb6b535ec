-- What the words of the clauses of `run` say, in plain numbers, lists of bytes and names.
use Rattle.std.specs.Prelude.{◌≡◌, ◌↔◌, ℕ, ◌<◌, ◌≤◌, ◌-◌, ◌^◌, ◌⊎◌, List, [], ◌∷◌, ◌++◌, length, take, codes, Contains, Some}
use Rattle.std.specs.Fmt.{decimal}
use Rattle.std.specs.declared.option.Option.{Option}
use Rattle.sheet_refs.specs.Cells.{Position}
use Rattle.edge_patterns.specs.Edges.{EdgeValue}
use Rattle.edit_script.specs.Scripts.{ScriptValue}
use Rattle.live_gen.specs.Laws.{closing_of}
use Rattle.live_gen.specs.Rows.{IsGeneratedSheet}
use Rattle.live_gen.specs.Sums.{sheet_sum}
use Rattle.sheet_model.specs.Sheets.{SheetValue}
use Rattle.edit_log.specs.Pairs.{ArePairsOf}
use Rattle.graph_walk.specs.Graphs.{Pair, Reach}
use Rattle.dep_path.specs.Chains.{IsShortest}
use Rattle.dep_path.specs.Levels.{one_cell}
use Rattle.taco_graph.specs.Joinable.{NoneJoins}
use Rattle.taco_graph.specs.Order.{AreInOrder}
use Rattle.taco_graph.specs.Pairs.{pairs_of}
use Rattle.window_text.specs.Texts.{check_text, generated_text}
use Rattle.sheet_io.specs.Faults.{Rose}
use Rattle.sheet_cli.specs.Answers.{AreInSheet, AreOfCheck, AreOfLive, AreOfPath, HasGivenSheet, IsAccepted, IsDue, IsLived, IsSummed, Owes, TellsTexts, Texts}
use Rattle.sheet_cli.specs.Answers.Answer.{output, refusal}
use Rattle.sheet_cli.specs.Graphs.{ShowsPath, cells_text, none_text}
use Rattle.sheet_cli.specs.Lines.{read_failed_line}
use Rattle.sheet_cli.specs.Replies.{IsRefusedStatus}
use Rattle.sheet_cli.specs.Requests.{Request, texts_named}
use Rattle.sheet_cli.specs.Requests.Request.{of_check, of_script, of_generated}
use Rattle.sheet_cli.specs.Runs.{HasBegun, HasWritten, IsCalm, IsRefused, IsStatus, IsUnfetched, TakesLine}
use Rattle.sheet_cli.specs.Words.{Asks, NamesNoText, command_word}
use Rattle.sheet_cli.specs.declared.script.ScriptCommand.TheVariants.{Live}
use Rattle.sheet_cli.specs.declared.window.WindowCommand.{WindowCommand}

-- the words of a command line, as bytes
abbrev pub Line : Type 0
Line = List (List ℕ)

-- the statuses are 0 and the numbers from 2 to 7, and those of a refusal 2, 3 and 4
abbrev pub StatusesAreSeven : Type 0
StatusesAreSeven = (status : ℕ) → IsStatus status ↔ ((status ≡ 0) ⊎ ((2 ≤ status) × (status ≤ 7)))

abbrev pub RefusedStatusesAreThree : Type 0
RefusedStatusesAreThree = (status : ℕ) → IsRefusedStatus status ↔ ((2 ≤ status) × (status ≤ 4))

-- a count of faults that hasn't fallen is calm exactly where it stands still below its end
abbrev pub CalmIsStill : Type 0
CalmIsStill =
    (before after : ℕ) → before ≤ after
    → IsCalm (λ (count : ℕ). count) before after ↔ ((after ≡ before) × (after < 2 ^ 64 - 1))

-- what is seen of a sink: what it tells, and its count of faults
pub record Seen : Type 0 where
  pub told : Option (List ℕ)
  pub faults : ℕ

abbrev pub TakesSeen : Seen → Seen → List ℕ → Type 0
TakesSeen = TakesLine (λ (seen : Seen). seen.told) (λ (seen : Seen). seen.faults)

-- where a sink tells, it has taken some first bytes of a line
abbrev pub LineIsTakenFromItsFront : Type 0
LineIsTakenFromItsFront =
    (old new : Seen) (before after line : List ℕ) → old.told ≡ Some before → new.told ≡ Some after
    → TakesSeen old new line → (n : ℕ) × (after ≡ before ++ take n line)

-- and all of it, where its faults haven't risen
abbrev pub CalmLineIsWhole : Type 0
CalmLineIsWhole =
    (old new : Seen) (before after line : List ℕ) → old.told ≡ Some before → new.told ≡ Some after
    → ¬ Rose old.faults new.faults → TakesSeen old new line → after ≡ before ++ line

-- a text that is due is among those that are named
abbrev pub DueIsNamed : Type 0
DueIsNamed = (holds : Texts) (request : Request) (name : List ℕ) → IsDue holds request name → Contains (texts_named request) name

-- the line for a text that was not fetched names the sheet of a command about a window
abbrev pub UnfetchedOfWindow : Type 0
UnfetchedOfWindow =
    (command : WindowCommand) (sheet range : List ℕ) (holds : Texts) (line : List ℕ)
    → IsUnfetched (command_word command ∷ sheet ∷ range ∷ []) holds (λ noted. noted ≡ line)
    → line ≡ read_failed_line sheet

-- that of `check`
abbrev pub UnfetchedOfCheck : Type 0
UnfetchedOfCheck =
    (sheet : List ℕ) (holds : Texts) (line : List ℕ)
    → IsUnfetched (codes "check" ∷ sheet ∷ []) holds (λ noted. noted ≡ line) → line ≡ read_failed_line sheet

-- that of `path`
abbrev pub UnfetchedOfPath : Type 0
UnfetchedOfPath =
    (sheet first second : List ℕ) (holds : Texts) (line : List ℕ)
    → IsUnfetched (codes "path" ∷ sheet ∷ first ∷ second ∷ []) holds (λ noted. noted ≡ line) → line ≡ read_failed_line sheet

-- that of `fill`
abbrev pub UnfetchedOfFill : Type 0
UnfetchedOfFill =
    (sheet first second : List ℕ) (holds : Texts) (line : List ℕ)
    → IsUnfetched (codes "fill" ∷ sheet ∷ first ∷ second ∷ []) holds (λ noted. noted ≡ line) → line ≡ read_failed_line sheet

-- or that of `play`, or its script where the sheet is there
abbrev pub UnfetchedOfPlay : Type 0
UnfetchedOfPlay =
    (sheet script : List ℕ) (holds : Texts) (line : List ℕ)
    → IsUnfetched (codes "play" ∷ sheet ∷ script ∷ []) holds (λ noted. noted ≡ line)
    → (line ≡ read_failed_line sheet) ⊎ ((line ≡ read_failed_line script) × HasGivenSheet holds sheet)

-- the same of `undo`
abbrev pub UnfetchedOfUndo : Type 0
UnfetchedOfUndo =
    (sheet script digits : List ℕ) (holds : Texts) (line : List ℕ)
    → IsUnfetched (codes "undo" ∷ sheet ∷ script ∷ digits ∷ []) holds (λ noted. noted ≡ line)
    → (line ≡ read_failed_line sheet) ⊎ ((line ≡ read_failed_line script) × HasGivenSheet holds sheet)

-- and of `live`, with however many workers
abbrev pub UnfetchedOfLive : Type 0
UnfetchedOfLive =
    (words : Line) (workers : ℕ) (sheet script : List ℕ) (holds : Texts) (line : List ℕ) → Asks words (of_script (Live workers) sheet script)
    → IsUnfetched words holds (λ noted. noted ≡ line)
    → (line ≡ read_failed_line sheet) ⊎ ((line ≡ read_failed_line script) × HasGivenSheet holds sheet)

-- a shelf that tells the sheet of a command about a window tells the texts of its words, whatever else it tells
abbrev pub TellsOfWindow : Type 0
TellsOfWindow =
    (command : WindowCommand) (sheet range text : List ℕ) (holds : Texts)
    → holds sheet ≡ Some text → TellsTexts (command_word command ∷ sheet ∷ range ∷ []) holds

-- so does one that tells the sheet of `check`
abbrev pub TellsOfCheck : Type 0
TellsOfCheck =
    (sheet text : List ℕ) (holds : Texts) → holds sheet ≡ Some text → TellsTexts (codes "check" ∷ sheet ∷ []) holds

-- or that of `path`
abbrev pub TellsOfPath : Type 0
TellsOfPath =
    (sheet first second text : List ℕ) (holds : Texts)
    → holds sheet ≡ Some text → TellsTexts (codes "path" ∷ sheet ∷ first ∷ second ∷ []) holds

-- or that of `fill`
abbrev pub TellsOfFill : Type 0
TellsOfFill =
    (sheet first second text : List ℕ) (holds : Texts)
    → holds sheet ≡ Some text → TellsTexts (codes "fill" ∷ sheet ∷ first ∷ second ∷ []) holds

-- and one that tells the sheet and the script of `play`
abbrev pub TellsOfPlay : Type 0
TellsOfPlay =
    (sheet script text steps : List ℕ) (holds : Texts) → holds sheet ≡ Some text → holds script ≡ Some steps
    → TellsTexts (codes "play" ∷ sheet ∷ script ∷ []) holds

-- or of `undo`
abbrev pub TellsOfUndo : Type 0
TellsOfUndo =
    (sheet script digits text steps : List ℕ) (holds : Texts) → holds sheet ≡ Some text → holds script ≡ Some steps
    → TellsTexts (codes "undo" ∷ sheet ∷ script ∷ digits ∷ []) holds

-- or of `live`
abbrev pub TellsOfLive : Type 0
TellsOfLive =
    (words : Line) (workers : ℕ) (sheet script text steps : List ℕ) (holds : Texts) → Asks words (of_script (Live workers) sheet script)
    → holds sheet ≡ Some text → holds script ≡ Some steps → TellsTexts words holds

-- two texts of `check`, with one number of pairs in front
pub record AreChecks (words : Line) (a b : List ℕ) : Type 0 where
  pub name : List ℕ
  pub words_are : words ≡ codes "check" ∷ name ∷ []
  pub pairs : ℕ
  pub rest : List ℕ
  pub others : List ℕ
  pub one : a ≡ codes "pairs " ++ (decimal pairs ++ 10 ∷ rest)
  pub other : b ≡ codes "pairs " ++ (decimal pairs ++ 10 ∷ others)

abbrev pub ChecksHaveOneCount : Type 0
ChecksHaveOneCount = (words : Line) (a b : List ℕ) → AreOfCheck words (output a) (output b) → AreChecks words a b

-- two texts that `live` may write of one script over one sheet
pub record AreLives (words : Line) (a b : List ℕ) : Type 0 where
  pub rest : Line
  pub words_are : words ≡ codes "live" ∷ rest
  pub sheet : SheetValue
  pub script : ScriptValue
  pub one : IsLived sheet script a
  pub other : IsLived sheet script b

abbrev pub LivesHaveOneScript : Type 0
LivesHaveOneScript = (words : Line) (a b : List ℕ) → AreOfLive words (output a) (output b) → AreLives words a b

-- two texts of `path`, which are chains of one length
pub record ArePaths (words : Line) (a b : List ℕ) : Type 0 where
  pub name : List ℕ
  pub first : List ℕ
  pub second : List ℕ
  pub words_are : words ≡ codes "path" ∷ name ∷ first ∷ second ∷ []
  pub cells : List Position
  pub others : List Position
  pub long : length cells ≡ length others
  pub one : a ≡ cells_text cells
  pub other : b ≡ cells_text others

abbrev pub PathsHaveOneLength : Type 0
PathsHaveOneLength = (words : Line) (a b : List ℕ) → AreOfPath words (output a) (output b) → ArePaths words a b

-- `path` writes that there is no chain exactly where none leads from one cell to the other
abbrev pub NoneIsNoChain : Type 0
NoneIsNoChain =
    (sheet : SheetValue) (from to : Position) (pairs : List Pair) (text : List ℕ) → AreInSheet sheet from to → ArePairsOf sheet pairs
    → ShowsPath sheet from to text → (text ≡ none_text) ↔ (¬ Reach pairs (one_cell from) to)

-- and otherwise the cells of a chain than which no list that leads from one to the other has fewer
abbrev pub ShownIsShortest : Type 0
ShownIsShortest =
    (sheet : SheetValue) (from to : Position) (pairs : List Pair) (text : List ℕ) → ArePairsOf sheet pairs
    → ShowsPath sheet from to text → Reach pairs (one_cell from) to
    → (cells : List Position) × ((text ≡ cells_text cells) × IsShortest pairs from to cells)

-- two texts of which a run may write either
pub data AreOtherTexts (words : Line) (a b : List ℕ) : Type 0 where
  checks : AreChecks words a b → AreOtherTexts words a b
  lives : AreLives words a b → AreOtherTexts words a b
  paths : ArePaths words a b → AreOtherTexts words a b

-- where the shelf tells the texts of the words, an empty output that has gained what they ask for holds one text
abbrev pub OneOutput : Type 0
OneOutput =
    (words : Line) (holds : Texts) (a b : List ℕ) → TellsTexts words holds
    → HasWritten words holds (Some []) (Some a) → HasWritten words holds (Some []) (Some b)
    → (a ≡ b) ⊎ AreOtherTexts words a b

-- they are refused with one status and one line
abbrev pub OneRefusal : Type 0
OneRefusal =
    (words : Line) (holds : Texts) (status given : ℕ) (line other : List ℕ) → TellsTexts words holds
    → IsRefused words holds status (λ noted. noted ≡ line) → IsRefused words holds given (λ noted. noted ≡ other)
    → (status ≡ given) × (line ≡ other)

-- and not both
abbrev pub NoOutputAndRefusal : Type 0
NoOutputAndRefusal =
    (words : Line) (holds : Texts) (text : List ℕ) (status : ℕ) (line : List ℕ) → TellsTexts words holds
    → HasWritten words holds (Some []) (Some text) → ¬ IsRefused words holds status (λ noted. noted ≡ line)

-- what an output has gained is the whole text that is owed
abbrev pub WrittenIsOwed : Type 0
WrittenIsOwed =
    (words : Line) (holds : Texts) (old new : List ℕ) → HasWritten words holds (Some old) (Some new)
    → (text : List ℕ) × Owes words holds (output text) × (new ≡ old ++ text)

-- what it has begun is some first bytes of such a text
abbrev pub BegunIsAPrefix : Type 0
BegunIsAPrefix =
    (words : Line) (holds : Texts) (old new : List ℕ) → HasBegun words holds (Some old) (Some new)
    → (text : List ℕ) × (n : ℕ) × Owes words holds (output text) × (new ≡ old ++ take n text)

-- what is refused is owed its line
abbrev pub RefusedIsOwed : Type 0
RefusedIsOwed =
    (words : Line) (holds : Texts) (status : ℕ) (line : List ℕ)
    → IsRefused words holds status (λ noted. noted ≡ line) → Owes words holds (refusal status line)

-- words that ask for what is in order are not refused, where the shelf tells their texts
abbrev pub AcceptedIsNotRefused : Type 0
AcceptedIsNotRefused =
    (words : Line) (holds : Texts) (status : ℕ) (line : List ℕ) → TellsTexts words holds
    → IsAccepted words holds → ¬ Owes words holds (refusal status line)

-- what `check` writes is the text of some edges in order, of which no two can be joined
abbrev pub ListedEdgesAreJoined : Type 0
ListedEdgesAreJoined =
    (words : Line) (holds : Texts) (name text : List ℕ) → Asks words (of_check name) → Owes words holds (output text)
    → (edges : List EdgeValue) × ((text ≡ check_text (length (pairs_of edges)) edges) × (AreInOrder edges × NoneJoins edges))

-- whatever a shelf tells, it tells the texts of the words of `gen`, which name none
abbrev pub TellsOfGen : Type 0
TellsOfGen = (words : Line) (number workers : ℕ) (holds : Texts) → Asks words (of_generated number workers) → NamesNoText words × TellsTexts words holds

-- `gen` is never refused
abbrev pub GenIsNotRefused : Type 0
GenIsNotRefused =
    (words : Line) (number workers : ℕ) (holds : Texts) (status : ℕ) (line : List ℕ) → Asks words (of_generated number workers)
    → ¬ Owes words holds (refusal status line)

-- What `gen` writes of a number is the text of 100 edits, and of the sum of the numbers among the one-thread values of the
-- number's sheet after the edits of its script: so it is one text, whatever the schedule.
abbrev pub SummedIsOneText : Type 0
SummedIsOneText =
    (number : ℕ) (sheet : SheetValue) (text : List ℕ) → IsGeneratedSheet number sheet → IsSummed number text
    → text ≡ generated_text number 100 (sheet_sum (closing_of number sheet))
