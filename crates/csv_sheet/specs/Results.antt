-- What the text of a sheet gives: a sheet, or the first cause why there is none.
use Rattle.std.specs.Prelude.{◌≡◌, ◌⊎◌, ℕ, Option, Some, None, ◌+◌, ◌-◌, ◌*◌, ◌<◌, List, [], ◌++◌, length, All, Result, Ok, Err, codes}
use Rattle.std.specs.Fmt.{decimal}
use Rattle.csv.specs.Records.{AllText}
use Rattle.sheet_refs.specs.Cells.{Position}
use Rattle.sheet_refs.specs.Names.{cell_text}
use Rattle.formula_syntax.specs.declared.edition.Edition.{Edition}
use Rattle.formula_syntax.specs.Spelling.{HasTooManyRefs}
use Rattle.sheet_model.specs.Fields.{IsContent, IsDeepFormula}
use Rattle.sheet_model.specs.Sheets.{SheetValue, IsSheet, content_of}
use Rattle.sheet_model.specs.Tables.{AddsLabels}
use Rattle.csv_sheet.specs.Records.{Rows, all_fields, HasRows, fields_at, field_at, cell_there, longest, sizes_of, without_marks}
use Rattle.csv_sheet.specs.Headings.{HeadedText, heading_of}
use Rattle.csv_sheet.specs.declared.refused.SheetRefused.{SheetRefused}
use Rattle.csv_sheet.specs.declared.refused.SheetRefused.TheVariants.{NotUtf8, TooManyCells, FieldTooLong, FormulaTooDeep, TooManyRefs, UnknownEdition, Memory}

-- each field of each record is UTF-8
abbrev pub AreText : Rows → Type 0
AreText rows = All AllText rows

-- the number of the first record with a field that isn't, counted from 1
pub record IsFirstNotText (rows : Rows) (number : ℕ) : Type 0 where
  pub row : ℕ
  pub number_is : number ≡ row + 1
  pub there : row < length rows
  pub not_text : ¬ AllText (fields_at rows row)
  pub before : (k : ℕ) → k < row → AllText (fields_at rows k)

-- more than 1048576 cells, or more than 16384 columns
abbrev pub IsTooLarge : Rows → Type 0
IsTooLarge rows = (1048576 < length rows * longest rows) ⊎ (16384 < longest rows)

-- row by row, the one place is before the other
abbrev pub IsPlaceBefore : ℕ → ℕ → ℕ → ℕ → Type 0
IsPlaceBefore r c row col = (r < row) ⊎ ((r ≡ row) × (c < col))

-- of no field is something true
abbrev pub NoField : (List ℕ → Type 0) → Rows → Type 0
NoField P rows = (row col : ℕ) → col < length (fields_at rows row) → ¬ P (field_at rows row col)

-- the cell of the first field, row by row, of which something is true
pub record IsFirstField (P : List ℕ → Type 0) (rows : Rows) (cell : Position) : Type 0 where
  pub row : ℕ
  pub col : ℕ
  pub cell_is : cell ≡ cell_there row col
  pub there : col < length (fields_at rows row)
  pub is : P (field_at rows row col)
  pub before : (r c : ℕ) → IsPlaceBefore r c row col → c < length (fields_at rows r) → ¬ P (field_at rows r c)

-- a field of more than 8192 bytes
abbrev pub IsLong : List ℕ → Type 0
IsLong field = 8192 < length field

-- a formula that is refused
abbrev pub IsRefusedFormula : Edition → List ℕ → Type 0
IsRefusedFormula edition field = IsDeepFormula field ⊎ HasTooManyRefs edition field

-- records that are text, fit a sheet, and have no field that is too long
pub record AreReadable (rows : Rows) : Type 0 where
  pub text : AreText rows
  pub fits : ¬ IsTooLarge rows
  pub short : NoField IsLong rows

-- the sheet of records in an edition: in each cell stands what its field writes, and each label's text stands once in the
-- table, in the order in which they first stand
pub record IsSheetOf (edition : Edition) (rows : Rows) (sheet : SheetValue) : Type 0 where
  pub readable : AreReadable rows
  pub kept : IsSheet sheet
  pub edition_is : sheet.edition ≡ edition
  pub sizes : sheet.sizes ≡ sizes_of rows
  pub labels : AddsLabels (all_fields rows) [] sheet.labels
  pub cells : (row col : ℕ) → row < length rows → col < longest rows
      → IsContent edition sheet.labels (field_at rows row col) (content_of sheet (cell_there row col))

-- the cell of the first formula that is refused, and why
pub record IsFirstRefused (edition : Edition) (Why : List ℕ → Type 0) (rows : Rows) (cell : Position) : Type 0 where
  pub readable : AreReadable rows
  pub first : IsFirstField (IsRefusedFormula edition) rows cell
  pub why : Why (field_at rows (cell.row - 1) (cell.col - 1))

-- what records give in an edition; want of memory is none of it
abbrev pub IsGivenByRecords : Edition → Rows → Result SheetValue SheetRefused → Type 0
IsGivenByRecords edition rows (Ok sheet) = IsSheetOf edition rows sheet
IsGivenByRecords edition rows (Err (NotUtf8 number)) = IsFirstNotText rows number
IsGivenByRecords edition rows (Err (TooManyCells height width)) =
    AreText rows × IsTooLarge rows × (height ≡ length rows) × (width ≡ longest rows)
IsGivenByRecords edition rows (Err (FieldTooLong cell)) = AreText rows × (¬ IsTooLarge rows) × IsFirstField IsLong rows cell
IsGivenByRecords edition rows (Err (FormulaTooDeep cell)) = IsFirstRefused edition IsDeepFormula rows cell
IsGivenByRecords edition rows (Err (TooManyRefs cell)) = IsFirstRefused edition (HasTooManyRefs edition) rows cell
IsGivenByRecords edition rows (Err UnknownEdition) = ⊥
IsGivenByRecords edition rows (Err Memory) = ⊥

-- what the text of records gives in an edition
pub record IsRecordsResult (edition : Edition) (records : List ℕ) (result : Result SheetValue SheetRefused) : Type 0 where
  pub rows : Rows
  pub has : HasRows records rows
  pub answer : IsGivenByRecords edition rows result

-- what a text gives, given what its first line names
abbrev pub IsHeadedResult : Option HeadedText → Result SheetValue SheetRefused → Type 0
IsHeadedResult None result = result ≡ Err UnknownEdition
IsHeadedResult (Some heading) result = IsRecordsResult heading.edition heading.records result

-- what a text gives, the byte order marks at its front taken off
abbrev pub IsSheetResult : List ℕ → Result SheetValue SheetRefused → Type 0
IsSheetResult text result = IsHeadedResult (heading_of (without_marks text)) result

-- a text gives one thing
abbrev pub OneSheetResult : Type 0
OneSheetResult = (text : List ℕ) (a b : Result SheetValue SheetRefused) → IsSheetResult text a → IsSheetResult text b → a ≡ b

-- and no text is without one: that none of all results is its own is false
abbrev pub SomeResult : Type 0
SomeResult = (text : List ℕ) → ¬ ((result : Result SheetValue SheetRefused) → ¬ IsSheetResult text result)

-- a refusal in words
abbrev pub sheet_refusal_text : SheetRefused → List ℕ
sheet_refusal_text (NotUtf8 number) = codes "sheet: record " ++ (decimal number ++ codes " is not UTF-8")
sheet_refusal_text (TooManyCells height width) = codes "sheet: too many cells"
sheet_refusal_text (FieldTooLong cell) = codes "sheet: field too long at " ++ cell_text cell
sheet_refusal_text (FormulaTooDeep cell) = codes "sheet: formula too deep at " ++ cell_text cell
sheet_refusal_text (TooManyRefs cell) = codes "sheet: too many references at " ++ cell_text cell
sheet_refusal_text UnknownEdition = codes "sheet: unknown edition"
sheet_refusal_text Memory = codes "out of memory"
