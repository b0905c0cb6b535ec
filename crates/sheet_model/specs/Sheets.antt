-- Sheets: a rectangle of cells that begins at A1, what stands in each cell, and the texts of labels.
use Rattle.std.specs.Prelude.{◌≡◌, ◌≢◌, ℕ, ◌*◌, ◌<◌, ◌≤◌, if◌then◌else◌, List, [], length, map, replicate, slice_index_or, slice_set, All, IsTrue}
use Rattle.sheet_refs.specs.Cells.{Corners, Position}
use Rattle.sheet_refs.specs.Cells.{IsIn}
use Rattle.sheet_refs.specs.declared.sizes.Sizes.{Sizes}
use Rattle.sheet_refs.specs.Sizes.{is_inside, cell_count, place_of}
use Rattle.formula_syntax.specs.declared.edition.Edition.{Edition}
use Rattle.formula_syntax.specs.Formula.{IsFormula}
use Rattle.formula_syntax.specs.Tree.{Tree}
use Rattle.value_core.specs.declared.value.ErrorKind.TheVariants.{Circ}
use Rattle.value_core.specs.declared.value.Value.{Value}
use Rattle.value_core.specs.declared.value.Value.TheVariants as value
use Rattle.value_core.specs.Values.{IsValue}
use Rattle.sheet_model.specs.Labels.{IsTable}
use Rattle.sheet_model.specs.declared.content.Content.{Content}
use Rattle.sheet_model.specs.declared.content.Content.TheVariants.{Empty, Number, Truth, Error, Label, Formula}

-- what stands in a cell: a value, or a formula that computes one
pub data ContentValue : Type 0 where
  Constant : Value → ContentValue
  Computed : Tree → ContentValue

-- a content as contracts see it; an empty cell has the value Empty
abbrev pub content_value : Content → ContentValue
content_value Empty = Constant value.Empty
content_value (Number number) = Constant (value.Number number)
content_value (Truth truth) = Constant (value.Truth truth)
content_value (Error kind) = Constant (value.Error kind)
content_value (Label place) = Constant (value.Label place)
content_value (Formula tree) = Computed tree.value

-- the edition of the functions, the sizes, what stands in the cells, row by row, and the texts of labels
pub record SheetValue : Type 0 where
  pub edition : Edition
  pub sizes : Sizes
  pub contents : List ContentValue
  pub labels : List (List ℕ)

-- the sizes that a sheet may have: at most 1048576 cells in at most 16384 columns, and rows exactly where there are columns
pub record IsSheetSize (sizes : Sizes) : Type 0 where
  pub cells : sizes.rows * sizes.cols ≤ 1048576
  pub narrow : sizes.cols ≤ 16384
  pub no_rows : sizes.rows ≡ 0 → sizes.cols ≡ 0
  pub no_cols : sizes.cols ≡ 0 → sizes.rows ≡ 0

-- the label of a content, where it has one, is in a table of so many labels
abbrev pub HasLabel : ℕ → ContentValue → Type 0
HasLabel labels (Constant (value.Label place)) = place < labels
HasLabel labels _ = Unit {0}

-- a constant that may be written: a value in range other than #CIRC!, since that error comes of evaluation alone
pub record IsConstant (constant : Value) : Type 0 where
  pub in_range : IsValue constant
  pub not_circular : constant ≢ value.Error Circ

-- such a constant, or a formula that can be read, which doesn't write #CIRC! either
abbrev pub IsWritten : ContentValue → Type 0
IsWritten (Constant constant) = IsConstant constant
IsWritten (Computed formula) = IsFormula formula

-- what a cell may hold beside a table of so many labels
pub record IsHeld (labels : ℕ) (content : ContentValue) : Type 0 where
  pub label : HasLabel labels content
  pub written : IsWritten content

-- a sheet has such a size, something stands in each of its cells, its labels are in its table, its constants are values in
-- range and its formulas can be read, and none of them writes #CIRC!
pub record IsSheet (sheet : SheetValue) : Type 0 where
  pub size : IsSheetSize sheet.sizes
  pub filled : length sheet.contents ≡ cell_count sheet.sizes
  pub table : IsTable sheet.labels
  pub held : All (IsHeld (length sheet.labels)) sheet.contents

-- a sheet as contracts see it
abbrev pub sheet_value : Edition → Sizes → List Content → List (List ℕ) → SheetValue
sheet_value edition sizes contents labels = record { edition = edition; sizes = sizes; contents = map content_value contents; labels = labels }

-- the same of a sheet in memory; what it lends for a cell past the rectangle is empty
pub record IsStored (edition : Edition) (sizes : Sizes) (contents : List Content) (labels : List (List ℕ)) (outside : Content) : Type 0 where
  pub sheet : IsSheet (sheet_value edition sizes contents labels)
  pub nothing : outside ≡ Empty

-- what stands in a cell; a cell past the rectangle is empty
abbrev pub content_of : SheetValue → Position → ContentValue
content_of sheet cell = if is_inside sheet.sizes cell then slice_index_or sheet.contents (place_of sheet.sizes cell)
    (Constant value.Empty) else Constant value.Empty

-- a sheet with nothing in its cells and no labels
abbrev pub blank_sheet : Edition → Sizes → SheetValue
blank_sheet edition sizes = record { edition = edition; sizes = sizes; contents = replicate (cell_count sizes) (Constant value.Empty); labels = [] }

-- the sheet with another table of labels
abbrev pub with_labels : SheetValue → List (List ℕ) → SheetValue
with_labels sheet labels = record { edition = sheet.edition; sizes = sheet.sizes; contents = sheet.contents; labels = labels }

-- the sheet with another content in one of its cells
abbrev pub with_content : SheetValue → Position → ContentValue → SheetValue
with_content sheet cell content = record {
  edition = sheet.edition;
  sizes = sheet.sizes;
  contents = slice_set sheet.contents (place_of sheet.sizes cell) content;
  labels = sheet.labels;
}

-- sheets with the same edition, the same sizes, the same labels and the same content in each cell are the same
abbrev pub SheetsAreTheirCells : Type 0
SheetsAreTheirCells =
    (a b : SheetValue) → IsSheet a → IsSheet b → a.edition ≡ b.edition → a.sizes ≡ b.sizes → a.labels ≡ b.labels
    → ((cell : Position) → IsTrue (is_inside a.sizes cell) → content_of a cell ≡ content_of b cell) → a ≡ b

-- a label that stands in a cell of a sheet is in its table
abbrev pub LabelsAreInTheirTable : Type 0
LabelsAreInTheirTable =
    (sheet : SheetValue) (cell : Position) (place : ℕ) → IsSheet sheet
    → content_of sheet cell ≡ Constant (value.Label place) → place < length sheet.labels

-- a constant that stands in a cell of a sheet is a value in range other than #CIRC!
abbrev pub ConstantsAreInRange : Type 0
ConstantsAreInRange =
    (sheet : SheetValue) (cell : Position) (constant : Value) → IsSheet sheet
    → content_of sheet cell ≡ Constant constant → IsValue constant × (constant ≢ value.Error Circ)

-- a formula that stands in a cell of a sheet can be read
abbrev pub FormulasCanBeRead : Type 0
FormulasCanBeRead =
    (sheet : SheetValue) (cell : Position) (formula : Tree) → IsSheet sheet → content_of sheet cell ≡ Computed formula → IsFormula formula

-- each cell of the range is a cell of the sheet
abbrev pub IsWithinSheet : Corners → SheetValue → Type 0
IsWithinSheet range sheet = (cell : Position) → IsIn cell range → IsTrue (is_inside sheet.sizes cell)
