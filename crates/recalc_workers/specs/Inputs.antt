-- What a turn reads of the inputs of its cell: words in the order of the cells of some ranges.
use Rattle.std.specs.Prelude.{◌≡◌, ◌≢◌, ◌<◌, ◌+◌, ◌-◌, ◌*◌, ◌⊎◌, ℕ, Bool, ◌&&◌, nat_le, if◌then◌else◌, List, [], ◌∷◌}
use Rattle.std.specs.Prelude.{Option, Some, None, length, drop, map, flat_map, slice_get, IsTrue, IsSome}
use Rattle.sheet_refs.specs.Cells.{Position, Corners, IsIn, cells_of, width}
use Rattle.sheet_refs.specs.Ends.{Reference}
use Rattle.sheet_refs.specs.Sizes.{is_inside, place_of}
use Rattle.sheet_refs.specs.declared.sizes.Sizes.{Sizes}
use Rattle.value_core.specs.declared.value.ErrorKind.TheVariants.{Circ}
use Rattle.value_core.specs.declared.value.Value.{Value}
use Rattle.value_core.specs.declared.value.Value.TheVariants.{Error}
use Rattle.value_core.specs.Decoding.{value_of_word}
use Rattle.value_core.specs.Values.{IsValue, code_of}
use Rattle.formula_eval.specs.Meaning.{IsNamedBy}
use Rattle.mark_core.specs.declared.subjects.Subject.{Ghosts}
use Rattle.mark_words.specs.declared.seats.Seat.{Seat}
use Rattle.sheet_model.specs.Parts.{AddsParts}
use Rattle.sheet_model.specs.Sheets.{SheetValue}
use Rattle.sheet_model.specs.Values.{IsInput}
use Rattle.sheet_model.specs.declared.parts.Part.{Part}
use Rattle.recalc_workers.specs.declared.inputs.InputList.{InputList}
use Rattle.recalc_workers.specs.declared.inputs.Unread.{Unread}
use Rattle.recalc_workers.specs.declared.inputs.Unread.TheVariants.{Outdated, Memory}
use Rattle.recalc_workers.specs.Turns.{HasReadOf}

-- whether a cell is one of a range's
abbrev pub is_in : Corners → Position → Bool
is_in range cell = (nat_le range.head.row cell.row && nat_le cell.row range.tail.row) && (nat_le range.head.col cell.col && nat_le cell.col range.tail.col)

-- its place among them, row by row, counted from 0
abbrev pub place_in : Corners → Position → ℕ
place_in range cell = (cell.row - range.head.row) * width range + (cell.col - range.head.col)

-- the cells of parts of ranges, part by part
abbrev pub all_cells : List Part → List Position
all_cells parts = flat_map (λ (part : Part). cells_of part.range) parts

-- a cell of one of the parts
pub record IsInParts (parts : List Part) (cell : Position) : Type 0 where
  pub place : ℕ
  pub part : Part
  pub listed : slice_get parts place ≡ Some part
  pub within : IsIn cell part.range

-- the word of a cell, where there is one for each cell of the parts: that of the first part with the cell
abbrev pub word_in : List Part → List ℕ → Position → Option ℕ
word_in [] words cell = None
word_in (part ∷ parts) words cell =
    if is_in part.range cell then slice_get words (place_in part.range cell) else word_in parts (drop (length (cells_of part.range)) words) cell

-- a list begins with the words of a range's cells, row by row
abbrev pub BeginsWithRange : (Position → Option ℕ) → Corners → List ℕ → Type 0
BeginsWithRange codes range words = (cell : Position) → IsIn cell range → codes cell ≡ slice_get words (place_in range cell)

-- each of the words is the code of a value
abbrev pub AreCodes : List ℕ → Type 0
AreCodes words = (i word : ℕ) → slice_get words i ≡ Some word → IsValue (value_of_word word) × (code_of (value_of_word word) ≡ word)

-- none of the words is the code of #CIRC!
abbrev pub HaveNoCircular : List ℕ → Type 0
HaveNoCircular words = (i word : ℕ) → slice_get words i ≡ Some word → word ≢ code_of (Error Circ)

-- the list has the parts of the ranges of these references, within a rectangle, and for each of their cells this word
pub record HasListed (sizes : Sizes) (references : List Reference) (word_of : Position → ℕ) (list : InputList) : Type 0 where
  pub parts : AddsParts sizes references [] list.parts.items
  pub words : list.words.items ≡ map word_of (all_cells list.parts.items)

-- there is a word for each cell of the rectangle that the references name
abbrev pub HaveWords : Sizes → List Reference → List Part → List ℕ → Type 0
HaveWords sizes references parts words = (cell : Position) → IsNamedBy references cell → IsTrue (is_inside sizes cell) → IsSome (word_in parts words cell)

-- the values of these cells have these words as their codes
abbrev pub AgreeWith : Sizes → List Reference → List Part → List ℕ → (Position → Value) → Type 0
AgreeWith sizes references parts words values =
    (cell : Position) (word : ℕ) → IsNamedBy references cell → IsTrue (is_inside sizes cell) → word_in parts words cell ≡ Some word
    → IsValue (values cell) × (code_of (values cell) ≡ word)

-- a read of the place was added, of which the clean word isn't for the mark, or the mark past so many entries
pub record IsOutdated {S E : Type 0} {G : Ghosts S E} (old new : Seat S E G) (place met : ℕ) : Type 0 where
  pub of : HasReadOf old new place
  pub why : (of.read.clean.upto ≢ of.read.mark + 1) ⊎ (met < of.read.mark)

-- reading ends early at such a cell of the rectangle, or for want of memory
abbrev pub StopsReading : {S E : Type 0} {G : Ghosts S E} → Sizes → (Position → Type 0) → Seat S E G → Seat S E G → ℕ → Unread → Type 0
StopsReading sizes Named old new met (Outdated cell) = Named cell × IsTrue (is_inside sizes cell) × IsOutdated old new (place_of sizes cell) met
StopsReading sizes Named old new met Memory = Unit {0}

-- what ended the reading, from the start of a turn on
abbrev pub WasUnread : {S E : Type 0} {G : Ghosts S E} → Sizes → Seat S E G → Seat S E G → ℕ → Unread → Type 0
WasUnread sizes start now met (Outdated cell) = IsOutdated start now (place_of sizes cell) met
WasUnread sizes start now met Memory = Unit {0}

-- the cell that ended it is an input of this one
abbrev pub IsInputUnread : SheetValue → Position → Unread → Type 0
IsInputUnread sheet cell (Outdated input) = IsInput sheet cell input
IsInputUnread sheet cell Memory = Unit {0}
