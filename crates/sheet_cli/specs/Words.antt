-- Which words ask for what.
use Rattle.std.specs.Prelude.{◌≡◌, ◌≢◌, ◌≤◌, ℕ, List, [], ◌∷◌, ◌++◌, All, length, map, codes, slice_get, Some, String, string_bytes}
use Rattle.std.specs.declared.alloc.Global.{Global}
use Rattle.sheet_refs.specs.Cells.{Corners, Position}
use Rattle.sheet_refs.specs.Names.{IsCellName, IsDecimal, IsRangeName}
use Rattle.sheet_cli.specs.Requests.{Request, texts_named}
use Rattle.sheet_cli.specs.Requests.Request.{of_window, of_check, of_script, of_path, of_fill, of_generated}
use Rattle.sheet_cli.specs.declared.words.Asked.{Asked}
use Rattle.sheet_cli.specs.declared.words.Asked.TheVariants.{Nothing, OfWindow, OfCheck, OfScript, OfPath, OfFill, OfGenerated}
use Rattle.sheet_cli.specs.declared.script.ScriptCommand.TheVariants.{Live, Play, Undo}
use Rattle.sheet_cli.specs.declared.window.WindowCommand.{WindowCommand}
use Rattle.sheet_cli.specs.declared.window.WindowCommand.TheVariants.{Show, Deps, Precs}

-- the words of a command line, as bytes
abbrev pub bytes_of : List (String Global) → List (List ℕ)
bytes_of words = map string_bytes words

-- a word is written as an option is: it begins with a dash, also where it is nothing else
abbrev pub IsOption : List ℕ → Type 0
IsOption word = slice_get word 0 ≡ Some 45

-- words are one position, which isn't written as an option
pub record IsOnePosition (words : List (List ℕ)) (first : List ℕ) : Type 0 where
  pub words_are : words ≡ first ∷ []
  pub first_plain : ¬ IsOption first

-- words are two positions
pub record AreTwoPositions (words : List (List ℕ)) (first second : List ℕ) : Type 0 where
  pub words_are : words ≡ first ∷ second ∷ []
  pub first_plain : ¬ IsOption first
  pub second_plain : ¬ IsOption second

-- words are three positions
pub record AreThreePositions (words : List (List ℕ)) (first second third : List ℕ) : Type 0 where
  pub words_are : words ≡ first ∷ second ∷ third ∷ []
  pub first_plain : ¬ IsOption first
  pub second_plain : ¬ IsOption second
  pub third_plain : ¬ IsOption third

-- the number of workers that digits write: one or two of them, and a number from 1 to 64
pub record IsWorkers (digits : List ℕ) (workers : ℕ) : Type 0 where
  pub short : length digits ≤ 2
  pub number : IsDecimal digits 64 workers
  pub some : 1 ≤ workers

-- the number of an edit, or that from which a run is drawn: one to ten digits write it, and it is at most 4294967295
pub record IsNumber (digits : List ℕ) (number : ℕ) : Type 0 where
  pub short : length digits ≤ 10
  pub number_is : IsDecimal digits 4294967295 number

-- what is left of words where the option for the number of workers, if they have it, is taken out of them, and that number
pub data TakesWorkers (words left : List (List ℕ)) (workers : ℕ) : Type 0 where
  -- no word is written as an option: there are 4 workers
  without : All (λ word. ¬ IsOption word) words → left ≡ words → workers ≡ 4 → TakesWorkers words left workers
  -- the first that is, is `--workers`, and the word behind it has the number
  in_two_words : (before after : List (List ℕ)) (digits : List ℕ) → All (λ word. ¬ IsOption word) before
      → words ≡ before ++ codes "--workers" ∷ digits ∷ after → IsWorkers digits workers → left ≡ before ++ after
      → TakesWorkers words left workers
  -- or it is `--workers=N`
  in_one_word : (before after : List (List ℕ)) (digits : List ℕ) → All (λ word. ¬ IsOption word) before
      → words ≡ before ++ (codes "--workers=" ++ digits) ∷ after → IsWorkers digits workers → left ≡ before ++ after
      → TakesWorkers words left workers

-- the word of a command about a window
abbrev pub command_word : WindowCommand → List ℕ
command_word Show = codes "show"
command_word Deps = codes "deps"
command_word Precs = codes "precs"

-- a word is that of no command about a window
abbrev pub IsNoWindowWord : List ℕ → Type 0
IsNoWindowWord word = (command : WindowCommand) → word ≢ command_word command

-- the words that name commands
pub data CommandWord : Type 0 where
  window_word : WindowCommand → CommandWord
  check_word : CommandWord
  play_word : CommandWord
  live_word : CommandWord
  undo_word : CommandWord
  path_word : CommandWord
  fill_word : CommandWord
  gen_word : CommandWord

abbrev pub spelled : CommandWord → List ℕ
spelled (window_word command) = command_word command
spelled check_word = codes "check"
spelled play_word = codes "play"
spelled live_word = codes "live"
spelled undo_word = codes "undo"
spelled path_word = codes "path"
spelled fill_word = codes "fill"
spelled gen_word = codes "gen"

-- `SHEET RANGE`, behind the word of a command about a window
pub record AsksOfWindow (command : WindowCommand) (words : List (List ℕ)) (request : Request) : Type 0 where
  pub sheet : List ℕ
  pub name : List ℕ
  pub window : Corners
  pub positions : AreTwoPositions words sheet name
  pub named : IsRangeName name window
  pub request_is : request ≡ of_window command sheet window

-- `SHEET`, behind `check`
pub record AsksOfCheck (words : List (List ℕ)) (request : Request) : Type 0 where
  pub sheet : List ℕ
  pub position : IsOnePosition words sheet
  pub request_is : request ≡ of_check sheet

-- `SHEET SCRIPT`, behind `play`
pub record AsksOfPlay (words : List (List ℕ)) (request : Request) : Type 0 where
  pub sheet : List ℕ
  pub script : List ℕ
  pub positions : AreTwoPositions words sheet script
  pub request_is : request ≡ of_script Play sheet script

-- `SHEET SCRIPT`, behind `live`, and in any place at most once `--workers N` or `--workers=N`
pub record AsksOfLive (words : List (List ℕ)) (request : Request) : Type 0 where
  pub left : List (List ℕ)
  pub workers : ℕ
  pub sheet : List ℕ
  pub script : List ℕ
  pub takes : TakesWorkers words left workers
  pub positions : AreTwoPositions left sheet script
  pub request_is : request ≡ of_script (Live workers) sheet script

-- `SHEET SCRIPT NUMBER`, behind `undo`
pub record AsksOfUndo (words : List (List ℕ)) (request : Request) : Type 0 where
  pub sheet : List ℕ
  pub script : List ℕ
  pub digits : List ℕ
  pub number : ℕ
  pub positions : AreThreePositions words sheet script digits
  pub numbered : IsNumber digits number
  pub request_is : request ≡ of_script (Undo number) sheet script

-- `SHEET CELL CELL`, behind `path`
pub record AsksOfPath (words : List (List ℕ)) (request : Request) : Type 0 where
  pub sheet : List ℕ
  pub first : List ℕ
  pub second : List ℕ
  pub from : Position
  pub to : Position
  pub positions : AreThreePositions words sheet first second
  pub first_named : IsCellName first from
  pub second_named : IsCellName second to
  pub request_is : request ≡ of_path sheet from to

-- `SHEET CELL RANGE`, behind `fill`
pub record AsksOfFill (words : List (List ℕ)) (request : Request) : Type 0 where
  pub sheet : List ℕ
  pub first : List ℕ
  pub second : List ℕ
  pub from : Position
  pub to : Corners
  pub positions : AreThreePositions words sheet first second
  pub cell_named : IsCellName first from
  pub range_named : IsRangeName second to
  pub request_is : request ≡ of_fill sheet from to

-- `NUMBER`, behind `gen`, and in any place at most once `--workers N` or `--workers=N`
pub record AsksOfGen (words : List (List ℕ)) (request : Request) : Type 0 where
  pub left : List (List ℕ)
  pub workers : ℕ
  pub digits : List ℕ
  pub number : ℕ
  pub takes : TakesWorkers words left workers
  pub position : IsOnePosition left digits
  pub writes : IsNumber digits number
  pub request_is : request ≡ of_generated number workers

-- the words behind that of a command ask for this
abbrev pub AsksBehind : CommandWord → List (List ℕ) → Request → Type 0
AsksBehind (window_word command) words request = AsksOfWindow command words request
AsksBehind check_word words request = AsksOfCheck words request
AsksBehind play_word words request = AsksOfPlay words request
AsksBehind live_word words request = AsksOfLive words request
AsksBehind undo_word words request = AsksOfUndo words request
AsksBehind path_word words request = AsksOfPath words request
AsksBehind fill_word words request = AsksOfFill words request
AsksBehind gen_word words request = AsksOfGen words request

-- the words after the program's name ask for this: the first names a command, and those behind it ask for this
pub record Asks (words : List (List ℕ)) (request : Request) : Type 0 where
  pub command : CommandWord
  pub rest : List (List ℕ)
  pub words_are : words ≡ spelled command ∷ rest
  pub behind : AsksBehind command rest request

-- the words are no command
abbrev pub AsksNothing : List (List ℕ) → Type 0
AsksNothing words = (request : Request) → ¬ Asks words request

-- whatever the words ask for names no text: they ask for nothing, or for a generated run
abbrev pub NamesNoText : List (List ℕ) → Type 0
NamesNoText words = (request : Request) → Asks words request → texts_named request ≡ []

-- what the program read of the words is what they ask for
abbrev pub IsAskedBy : List (List ℕ) → Asked → Type 0
IsAskedBy words Nothing = AsksNothing words
IsAskedBy words (OfWindow command sheet window) = Asks words (of_window command (string_bytes sheet) window)
IsAskedBy words (OfCheck sheet) = Asks words (of_check (string_bytes sheet))
IsAskedBy words (OfScript command sheet script) = Asks words (of_script command (string_bytes sheet) (string_bytes script))
IsAskedBy words (OfPath sheet from to) = Asks words (of_path (string_bytes sheet) from to)
IsAskedBy words (OfFill sheet from to) = Asks words (of_fill (string_bytes sheet) from to)
IsAskedBy words (OfGenerated number workers) = Asks words (of_generated number workers)
