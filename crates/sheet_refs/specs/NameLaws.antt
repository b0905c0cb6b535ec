-- What is true of the names of cells, ranges and references.
use Rattle.std.specs.Prelude.{◌≡◌, ℕ, List, false}
use Rattle.sheet_refs.specs.Cells.{Position, Corners, IsNamed, IsOrdered}
use Rattle.sheet_refs.specs.Ends.{Reference, IsReference, IsReferenceName, reference_text}
use Rattle.sheet_refs.specs.Names.{IsCellName, IsRangeName, cell_text, range_text}

-- what a cell prints is a name of it
abbrev pub CellsPrintNames : Type 0
CellsPrintNames = (cell : Position) → IsNamed cell.row cell.col → IsCellName (cell_text cell) cell

-- what a range prints is a name of it
abbrev pub RangesPrintNames : Type 0
RangesPrintNames = (range : Corners) → IsNamed range.head.row range.head.col → IsNamed range.tail.row range.tail.col
    → IsOrdered range.head range.tail → IsRangeName (range_text range) range

-- what a reference prints is a name of it
abbrev pub ReferencesPrintNames : Type 0
ReferencesPrintNames = (r : Reference) → IsReference r.head r.tail r.single → IsReferenceName false (reference_text r) r

-- no text names two cells
abbrev pub NamesOneCell : Type 0
NamesOneCell = (text : List ℕ) (a b : Position) → IsCellName text a → IsCellName text b → a ≡ b

-- no text names two ranges
abbrev pub NamesOneRange : Type 0
NamesOneRange = (text : List ℕ) (a b : Corners) → IsRangeName text a → IsRangeName text b → a ≡ b
