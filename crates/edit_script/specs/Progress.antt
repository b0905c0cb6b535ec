-- What is kept of the lines so far.
use Rattle.std.specs.Prelude.{◌≡◌, ◌≢◌, ◌⊎◌, ℕ, ◌+◌, ◌<◌, ◌≤◌, List, [], ◌++◌, length, map, slice_index_or}
use Rattle.std.specs.Prelude.{string_bytes, codes, All, AllPairs, Option, Some, None, MatchOption, Contains, IsTrue}
use Rattle.std.specs.Prelude.{option_map}
use Rattle.sheet_refs.specs.Cells.{Position, Corners}
use Rattle.sheet_refs.specs.Sizes.{is_inside}
use Rattle.sheet_refs.specs.declared.sizes.Sizes.{Sizes}
use Rattle.formula_syntax.specs.declared.edition.Edition.{Edition}
use Rattle.formula_syntax.specs.Spelling.{HasTooManyRefs}
use Rattle.sheet_model.specs.Fields.{IsDeepFormula}
use Rattle.sheet_model.specs.Tables.{AddsLabels}
use Rattle.sheet_model.specs.Edits.{EditValue}
use Rattle.edit_script.specs.Batches.{changed_cells}
use Rattle.edit_script.specs.Lines.{LineValue, Set, Batch, script_lines}
use Rattle.edit_script.specs.Scripts.{AreLines, AreSteps, Brought, GoesOn, Ground, HasCause, IsAllowed, IsBatchFull}
use Rattle.edit_script.specs.Scripts.{IsBegun, IsChangeEditTooMany, IsInBatch, IsLargeWindow, IsPartOutside, brought_by}
use Rattle.edit_script.specs.Scripts.{place_in_order, set_text, set_texts, with_line}
use Rattle.edit_script.specs.declared.refused.ScriptRefused.{ScriptRefused}
use Rattle.edit_script.specs.declared.refused.ScriptRefused.TheVariants.{OutOfSheet, CellTwice, BatchTooLarge}
use Rattle.edit_script.specs.declared.refused.ScriptRefused.TheVariants.{WindowTooLarge, TooManyEdits, FormulaTooDeep}
use Rattle.edit_script.specs.declared.refused.ScriptRefused.TheVariants.{TooManyRefs}
use Rattle.edit_script.specs.declared.progress.Progress.{Progress}
use Rattle.edit_script.specs.declared.script.Mode.{Mode}

-- the names that are kept
abbrev pub names_of : Progress → List (List ℕ)
names_of progress = map string_bytes progress.names.items

-- whose commands follow: the client at a place, or `main`
abbrev pub client_named : List (List ℕ) → Option ℕ → List ℕ
client_named names None = codes "main"
client_named names (Some place) = slice_index_or names place []

-- what the lines have brought
abbrev pub brought : Progress → Brought
brought progress = record {
  client = client_named (names_of progress) progress.client;
  names = names_of progress;
  cells = progress.cells;
  edits = progress.edits;
  batch = option_map changed_cells progress.batch;
}

-- a place is that of a client; without one there is no client
abbrev pub IsPlace : ℕ → Option ℕ → Type 0
IsPlace count client = MatchOption client (count ≡ 0) (λ place. place < count)

-- what is kept is within the limits, and of clients that are there
pub record IsWithinLimits (progress : Progress) : Type 0 where
  pub few : length progress.names.items ≤ 32
  pub distinct : AllPairs (λ a b. a ≢ b) (names_of progress)
  pub client : IsPlace (length progress.names.items) progress.client
  pub cells : progress.cells ≤ 4194304
  pub edits : progress.edits ≤ 1048576
  pub clients : All (λ step. step.client < length progress.names.items) progress.steps.items

-- a line that may be taken wants a cell to hold no long text
abbrev pub HoldsShortText : LineValue → Type 0
HoldsShortText (Set cell text) = length text ≤ 8192
HoldsShortText _ = Unit {0}

-- the table has become longer, or is as it was
abbrev pub Extends : List (List ℕ) → List (List ℕ) → Type 0
Extends old new = (more : List (List ℕ)) × (new ≡ old ++ more)

-- nothing is wrong with the line, whatever a cell is to hold
abbrev pub IsPlainlyAllowed : Ground → Brought → LineValue → Type 0
IsPlainlyAllowed ground now line = (why : ScriptRefused) → place_in_order why ≤ 6 → ¬ HasCause ground now line why

-- a change may be made of the cell
pub record MayChange (now : Brought) (cell : Position) : Type 0 where
  pub once : ¬ IsInBatch now cell
  pub room : ¬ IsBatchFull now
  pub edits : ¬ IsChangeEditTooMany now

-- a change of a cell outside the sheet, or of one that the batch changes, or one too many for the batch or the script
pub data IsChangeFault (sizes : Sizes) (now : Brought) (cell : Position) (number : ℕ) (why : ScriptRefused) : Type 0 where
  outside : why ≡ OutOfSheet number → ¬ IsTrue (is_inside sizes cell) → IsChangeFault sizes now cell number why
  twice : why ≡ CellTwice number → IsTrue (is_inside sizes cell) → IsInBatch now cell → IsChangeFault sizes now cell number why
  large : why ≡ BatchTooLarge number → IsTrue (is_inside sizes cell) → ¬ IsInBatch now cell → IsBatchFull now → IsChangeFault sizes now cell number why
  edits : why ≡ TooManyEdits number → IsTrue (is_inside sizes cell) → ¬ IsInBatch now cell → ¬ IsBatchFull now
      → IsChangeEditTooMany now → IsChangeFault sizes now cell number why

-- the same of the changes of a batch alone
abbrev pub IsBatchFault : EditValue → Position → ℕ → ScriptRefused → Type 0
IsBatchFault changes cell number why =
    ((why ≡ CellTwice number) × Contains (changed_cells changes) cell)
    ⊎ ((why ≡ BatchTooLarge number) × (¬ Contains (changed_cells changes) cell) × (1024 ≤ length changes))

-- a window with a part outside the sheet, or one that is too large
abbrev pub IsWindowFault : Sizes → Brought → Corners → ℕ → ScriptRefused → Type 0
IsWindowFault sizes now range number why =
    ((why ≡ OutOfSheet number) × IsPartOutside sizes range)
    ⊎ ((why ≡ WindowTooLarge number) × (¬ IsPartOutside sizes range) × IsLargeWindow now range)

-- a formula that is refused
abbrev pub IsTextFault : Edition → List ℕ → ℕ → ScriptRefused → Type 0
IsTextFault edition text number why =
    ((why ≡ FormulaTooDeep number) × IsDeepFormula text) ⊎ ((why ≡ TooManyRefs number) × HasTooManyRefs edition text)

-- the line at which the last batch begins
abbrev pub BeginsAt : LineValue → ℕ → ℕ → ℕ → Type 0
BeginsAt Batch number old new = new ≡ number
BeginsAt _ number old new = new ≡ old

-- the line was taken
pub record Takes (ground : Ground) (line : LineValue) (number : ℕ) (old_labels : List (List ℕ)) (old : Progress)
    (new_labels : List (List ℕ)) (new : Progress) : Type 0 where
  pub allowed : IsAllowed ground (brought old) line
  pub brought_is : brought new ≡ with_line (brought old) line
  pub sound : IsWithinLimits new
  pub goes : GoesOn ground.edition new_labels (brought new) line old.batch new.batch old.steps.items new.steps.items
  pub begun : BeginsAt line number old.begun new.begun
  pub labels : AddsLabels (set_text line) old_labels new_labels

-- some lines were taken, over a table before them, and left another
pub record HasTakenLines (mode : Mode) (ground : Ground) (old new : List (List ℕ)) (texts : List (List ℕ)) (progress : Progress) : Type 0 where
  pub lines : List LineValue
  pub said : AreLines mode ground texts lines
  pub brought_is : brought progress ≡ brought_by lines
  pub steps : AreSteps ground.edition new lines progress.batch progress.steps.items
  pub begun : MatchOption progress.batch (Unit {0}) (λ changes. IsBegun lines progress.begun)
  pub count : length lines ≡ length texts
  pub labels : AddsLabels (set_texts lines) old new
  pub sound : IsWithinLimits progress

-- so many lines of a text were taken, and these are left; each may have added a label
pub record IsReading (mode : Mode) (ground : Ground) (old new : List (List ℕ)) (text : List ℕ) (number : ℕ)
    (left : List (List ℕ)) (progress : Progress) : Type 0 where
  pub taken : List (List ℕ)
  pub all : script_lines text ≡ taken ++ left
  pub count : number ≡ length taken
  pub way : HasTakenLines mode ground old new taken progress
  pub few : length new ≤ length old + number
