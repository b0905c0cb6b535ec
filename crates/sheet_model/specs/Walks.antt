-- The walk over a sheet: what is known of each cell, the cells that are open, and what each of them is still to look at.
use Rattle.std.specs.Prelude.{◌≡◌, ◌≢◌, ◌⊎◌, ℕ, suc, ◌+◌, ◌*◌, ◌<◌, ◌≤◌, Bool, true, false, IsTrue, IsFalse, List, []}
use Rattle.std.specs.Prelude.{length, map, set, slice_get, slice_index_or, count_by, Some}
use Rattle.sheet_refs.specs.Cells.{Corners, IsIn, Position}
use Rattle.sheet_refs.specs.Ends.{Reference}
use Rattle.sheet_refs.specs.Sizes.{is_inside, cell_count, place_of}
use Rattle.sheet_refs.specs.declared.sizes.Sizes.{Sizes}
use Rattle.value_core.specs.declared.value.ErrorKind.TheVariants.{Circ}
use Rattle.value_core.specs.declared.value.Value.{Value}
use Rattle.value_core.specs.declared.value.Value.TheVariants as value
use Rattle.sheet_model.specs.Parts.{IsAt, IsLeftInParts, AreParts}
use Rattle.sheet_model.specs.Sheets.{SheetValue, ContentValue, Constant, Computed, IsSheet}
use Rattle.formula_eval.specs.Meaning.{IsNamedBy}
use Rattle.sheet_model.specs.Values.{content_references, step_content, value_of, IsInput}
use Rattle.sheet_model.specs.Words.{CellState, Unseen, Open, Known, AreWords, states_of, is_plain}
use Rattle.sheet_model.specs.declared.parts.Part.{Part}
use Rattle.sheet_model.specs.declared.walk.Frame.{Frame}
use Rattle.sheet_model.specs.declared.walk.Walk.{Walk}

-- what is known of a cell before the walk: the value of a constant
abbrev pub first_state : ContentValue → CellState
first_state (Constant value) = Known value
first_state (Computed formula) = Unseen

-- the value that is known of a cell
abbrev pub known_value : CellState → Value
known_value Unseen = value.Empty
known_value Open = value.Empty
known_value (Known value) = value

-- the values of the cells as far as they are known
abbrev pub known_values : Sizes → List CellState → Position → Value
known_values sizes states cell = known_value (slice_index_or states (place_of sizes cell) Unseen)

-- evaluation can read past each cell of the rectangle that references name
abbrev pub ArePlainReferences : Sizes → List CellState → List Reference → Type 0
ArePlainReferences sizes states references =
    (cell : Position) → IsNamedBy references cell → IsTrue (is_inside sizes cell) → IsTrue (is_plain sizes states cell)

-- the same of each that a content names
abbrev pub ArePlainInputs : Sizes → List CellState → ContentValue → Type 0
ArePlainInputs sizes states content = ArePlainReferences sizes states (content_references content)

-- what stands in the cell at a place
abbrev pub content_there : SheetValue → ℕ → ContentValue
content_there sheet place = slice_index_or sheet.contents place (Constant value.Empty)

-- one cell more has a known value, which is that of its content over the values known before
abbrev pub KnowsOneMore : SheetValue → List CellState → List CellState → ℕ → Type 0
KnowsOneMore sheet old new place =
    new ≡ set old place (Known (step_content sheet.sizes (known_values sheet.sizes old) (content_there sheet place)))

abbrev pub is_unseen : CellState → Bool
is_unseen Unseen = true
is_unseen Open = false
is_unseen (Known value) = false

-- what is left to do: each cell that is not seen is opened and settled, and each open one settled
abbrev pub work_left : List CellState → List Frame → ℕ
work_left states frames = 2 * count_by is_unseen states + length frames

-- an open cell that leads into a cycle is known to be circular
abbrev pub closed_state : CellState → CellState
closed_state Unseen = Unseen
closed_state Open = Known (value.Error Circ)
closed_state (Known value) = Known value

-- each known value is that of the sheet; the open cells are those of the frames, and each frame waits for the next one's
-- cell
pub record IsWalkOf (sheet : SheetValue) (states : List CellState) (frames : List Frame) : Type 0 where
  pub is_sheet : IsSheet sheet
  pub count : length states ≡ cell_count sheet.sizes
  pub settled : (cell : Position) (v : Value) → IsTrue (is_inside sheet.sizes cell)
      → slice_get states (place_of sheet.sizes cell) ≡ Some (Known v) → value_of sheet cell ≡ v
  pub listed : (p : ℕ) → slice_get states p ≡ Some Open → (i : ℕ) × (frame : Frame) × (slice_get frames i ≡ Some frame) × (place_of sheet.sizes frame.cell ≡ p)
  pub inside : (i : ℕ) (frame : Frame) → slice_get frames i ≡ Some frame → IsTrue (is_inside sheet.sizes frame.cell)
  pub opened : (i : ℕ) (frame : Frame) → slice_get frames i ≡ Some frame → slice_get states (place_of sheet.sizes frame.cell) ≡ Some Open
  pub once : (i j : ℕ) (f g : Frame) → i < j → slice_get frames i ≡ Some f → slice_get frames j ≡ Some g
      → place_of sheet.sizes f.cell ≢ place_of sheet.sizes g.cell
  pub waits : (i : ℕ) (f g : Frame) → slice_get frames i ≡ Some f → slice_get frames (suc i) ≡ Some g → IsInput sheet f.cell g.cell

-- no later frame's parts begin at the place or before it
abbrev pub BelowLater : List Frame → ℕ → ℕ → Type 0
BelowLater frames i place = (j : ℕ) (g : Frame) → i < j → slice_get frames j ≡ Some g → place < g.first

-- evaluation can read past each input of an open cell, or the input is left to look at;
-- and what is left behind an open cell's first part, and before the next one's, are its inputs
pub record HasParts (sheet : SheetValue) (states : List CellState) (frames : List Frame) (parts : List Part) : Type 0 where
  pub are_parts : AreParts sheet.sizes states parts
  pub passed : (i : ℕ) (frame : Frame) (input : Position) → slice_get frames i ≡ Some frame
      → IsInput sheet frame.cell input → IsTrue (is_plain sheet.sizes states input)
      ⊎ IsLeftInParts parts frame.first input
  pub named : (i : ℕ) (frame : Frame) (k : ℕ) (input : Position) → slice_get frames i ≡ Some frame → frame.first ≤ k
      → BelowLater frames i k → IsAt parts k input → IsInput sheet frame.cell input

-- no cell that was seen is unseen afterwards
abbrev pub KeepsSeen : List CellState → List CellState → Type 0
KeepsSeen old new = (p : ℕ) → slice_get new p ≡ Some Unseen → slice_get old p ≡ Some Unseen

-- no value that was known is lost
abbrev pub KeepsKnown : List CellState → List CellState → Type 0
KeepsKnown old new = (p : ℕ) (v : Value) → slice_get old p ≡ Some (Known v) → slice_get new p ≡ Some (Known v)

-- a value is known of the cell at a place
abbrev pub IsKnownAt : List CellState → ℕ → Type 0
IsKnownAt states place = (v : Value) × (slice_get states place ≡ Some (Known v))

-- every cell before the place has been seen
abbrev pub SeenBelow : List CellState → ℕ → Type 0
SeenBelow states end = (p : ℕ) → p < end → slice_get states p ≢ Some Unseen

-- every cell of a range has been seen
abbrev pub SeenWithin : Sizes → List CellState → Corners → Type 0
SeenWithin sizes states range = (cell : Position) → IsIn cell range → slice_get states (place_of sizes cell) ≢ Some Unseen

-- the newest open cell waits for this one, which evaluation can't read past
pub record IsWaiting (sheet : SheetValue) (states : List CellState) (frames : List Frame) (cell : Position) : Type 0 where
  pub newest : (i : ℕ) (frame : Frame) → slice_get frames i ≡ Some frame → suc i ≡ length frames → IsInput sheet frame.cell cell
  pub some : 0 < length frames
  pub inside : IsTrue (is_inside sheet.sizes cell)
  pub stop : IsFalse (is_plain sheet.sizes states cell)

-- the frames have all open cells, and each of their cells is open or closed already
pub record IsClosing (sheet : SheetValue) (states : List CellState) (frames : List Frame) : Type 0 where
  pub count : length states ≡ cell_count sheet.sizes
  pub inside : (i : ℕ) (frame : Frame) → slice_get frames i ≡ Some frame → IsTrue (is_inside sheet.sizes frame.cell)
  pub listed : (p : ℕ) → slice_get states p ≡ Some Open → (i : ℕ) × (frame : Frame) × (slice_get frames i ≡ Some frame) × (place_of sheet.sizes frame.cell ≡ p)
  pub closes : (i : ℕ) (frame : Frame) → slice_get frames i ≡ Some frame
      → slice_get (map closed_state states) (place_of sheet.sizes frame.cell) ≡ Some (Known (value.Error Circ))

-- the states that a walk knows
abbrev pub walk_states : Walk → List CellState
walk_states walk = states_of walk.words.items

-- words that are codes of values or stand for none, as a walk has them with these open cells and with these parts left
pub record IsWalkState (sheet : SheetValue) (words : List ℕ) (frames : List Frame) (parts : List Part) : Type 0 where
  pub coded : AreWords words
  pub walk : IsWalkOf sheet (states_of words) frames
  pub left : HasParts sheet (states_of words) frames parts

-- the same of a walk in memory
abbrev pub IsStoredWalk : SheetValue → Walk → Type 0
IsStoredWalk sheet walk = IsWalkState sheet walk.words.items walk.frames.items walk.parts.items

-- a cell of the rectangle that was not looked at, for which the newest open cell waits
pub record IsNextToOpen (sheet : SheetValue) (states : List CellState) (frames : List Frame) (cell : Position) : Type 0 where
  pub inside : IsTrue (is_inside sheet.sizes cell)
  pub unseen : slice_get states (place_of sheet.sizes cell) ≡ Some Unseen
  pub newest : (i : ℕ) (frame : Frame) → slice_get frames i ≡ Some frame → suc i ≡ length frames → IsInput sheet frame.cell cell

-- nothing is left to look at of the newest open cell
abbrev pub IsDone : Walk → Type 0
IsDone walk = (i : ℕ) (frame : Frame) → slice_get walk.frames.items i ≡ Some frame → suc i ≡ length walk.frames.items → length walk.parts.items ≤ frame.first

-- no cell is open
abbrev pub IsIdle : Walk → Type 0
IsIdle walk = walk.frames.items ≡ []

abbrev pub cells_left : Walk → ℕ
cells_left walk = work_left (walk_states walk) walk.frames.items

abbrev pub StaysSeen : Walk → Walk → Type 0
StaysSeen old new = KeepsSeen (walk_states old) (walk_states new)

abbrev pub StaysKnown : Walk → Walk → Type 0
StaysKnown old new = KeepsKnown (walk_states old) (walk_states new)
