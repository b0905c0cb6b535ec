-- Filling the cells of a blank sheet, field by field.
use Rattle.std.specs.Prelude.{◌≡◌, ◌≢◌, Err, ℕ, ◌+◌, ◌*◌, ◌<◌, ◌≤◌, List, [], ◌∷◌, ◌++◌, length, take, drop, slice_index_or, Option}
use Rattle.std.specs.Str.{IsAscii}
use Rattle.csv.specs.Reading.{AreRecords, default_config}
use Rattle.csv.specs.Records.{AllText}
use Rattle.csv.specs.declared.parser.State.TheVariants.{StartRecord}
use Rattle.csv.specs.declared.reader.Reader.{Reader}
use Rattle.csv_sheet.specs.Ahead.{AreNext, Begin, in_lists, text_fields}
use Rattle.csv_sheet.specs.Lines.{line_fields, text_rows}
use Rattle.csv_sheet.specs.Reading.{HasReadRecords}
use Rattle.sheet_refs.specs.Cells.{Position}
use Rattle.sheet_refs.specs.declared.sizes.Sizes.{Sizes}
use Rattle.sheet_model.specs.Fields.{IsContent, IsDeepFormula, IsTableAfter}
use Rattle.sheet_model.specs.Sheets.{SheetValue, ContentValue, IsSheet, IsSheetSize, blank_sheet, content_of, with_content, with_labels}
use Rattle.sheet_model.specs.Tables.{AddsLabels}
use Rattle.sheet_model.specs.declared.content.Content.{Content}
use Rattle.std.specs.Global.{Vec}
use Rattle.csv_sheet.specs.declared.known.Known.{Known}
use Rattle.formula_syntax.specs.declared.edition.Edition.{Edition}
use Rattle.formula_syntax.specs.Spelling.{HasTooManyRefs}
use Rattle.csv_sheet.specs.Records.{Rows, all_fields, field_at, cell_there, sizes_of}
use Rattle.csv_sheet.specs.Results.{AreReadable, IsGivenByRecords, IsLong, IsRefusedFormula, IsSheetOf}
use Rattle.csv_sheet.specs.declared.refused.SheetRefused.{SheetRefused}
use Rattle.csv_sheet.specs.declared.refused.SheetRefused.TheVariants.{NotUtf8, TooManyCells, FieldTooLong, FormulaTooDeep, TooManyRefs, UnknownEdition, Memory}

-- the sheet holds these records, and nothing where they have no field
pub record HoldsRecords (rows : Rows) (sheet : SheetValue) : Type 0 where
  pub kept : IsSheet sheet
  pub labels : AddsLabels (all_fields rows) [] sheet.labels
  pub cells : (row col : ℕ) → row < sheet.sizes.rows → col < sheet.sizes.cols
      → IsContent sheet.edition sheet.labels (field_at rows row col) (content_of sheet (cell_there row col))

-- a field, which isn't too long, was put into a cell
pub record PutsField (field : List ℕ) (cell : Position) (old new : SheetValue) : Type 0 where
  pub short : ¬ IsLong field
  pub table : IsTableAfter field old.labels new.labels
  pub content : ContentValue
  pub writes : IsContent old.edition new.labels field content
  pub placed : new ≡ with_content (with_labels old new.labels) cell content

-- why a field wasn't put into a cell; want of memory needs no cause
abbrev pub IsFieldRefusal : Edition → List ℕ → Position → SheetRefused → Type 0
IsFieldRefusal edition field cell (NotUtf8 number) = ⊥
IsFieldRefusal edition field cell (TooManyCells height width) = ⊥
IsFieldRefusal edition field cell (FieldTooLong at) = ⊥
IsFieldRefusal edition field cell (FormulaTooDeep at) = (at ≡ cell) × IsDeepFormula field
IsFieldRefusal edition field cell (TooManyRefs at) = (at ≡ cell) × HasTooManyRefs edition field
IsFieldRefusal edition field cell UnknownEdition = ⊥
IsFieldRefusal edition field cell Memory = Unit {0}

-- a record that fits a sheet, each of whose fields may be read
pub record IsRecordFor (sheet : SheetValue) (row : ℕ) (fields : List (List ℕ)) : Type 0 where
  pub kept : IsSheet sheet
  pub within : row < sheet.sizes.rows
  pub narrow : length fields ≤ sheet.sizes.cols
  pub text : AllText fields
  pub short : (col : ℕ) → col < length fields → ¬ IsLong (slice_index_or fields col [])
  pub few : length sheet.labels ≤ row * sheet.sizes.cols

-- why a record wasn't put into a row: the first of its fields that is refused
pub record IsRowRefusal (edition : Edition) (row : ℕ) (fields : List (List ℕ)) (refused : SheetRefused) : Type 0 where
  pub col : ℕ
  pub within : col < length fields
  pub why : IsFieldRefusal edition (slice_index_or fields col []) (cell_there row col) refused
  pub before : (c : ℕ) → c < col → ¬ IsRefusedFormula edition (slice_index_or fields c [])

-- so many fields of a record were put into a row
pub record IsPartFilled (row : ℕ) (fields : List (List ℕ)) (col : ℕ) (old new : SheetValue) : Type 0 where
  pub filled : (rows : Rows) → length rows ≡ row → HoldsRecords rows old → HoldsRecords (rows ++ take col fields ∷ []) new
  pub edition : new.edition ≡ old.edition
  pub sizes : new.sizes ≡ old.sizes
  pub few : length new.labels ≤ row * old.sizes.cols + col
  pub clean : (k : ℕ) → k < col → ¬ IsRefusedFormula old.edition (slice_index_or fields k [])

-- so many records were put into a sheet
pub record ArePut (rows : Rows) (row : ℕ) (old new : SheetValue) : Type 0 where
  pub count : length rows ≡ row
  pub holds : HoldsRecords rows new
  pub edition : new.edition ≡ old.edition
  pub sizes : new.sizes ≡ old.sizes
  pub few : length new.labels ≤ row * old.sizes.cols

-- so many records of a text were read and put into a sheet
pub record HasFilled {R : Type 0} (left : R → Option (List ℕ)) (text : List ℕ) (row : ℕ) (old new : SheetValue) (reader : Reader R) : Type 0 where
  pub rows : Rows
  pub read : HasReadRecords left text rows reader
  pub put : ArePut rows row old new

-- the first of all records were put into the rows before this one of a sheet that was blank; these are left
pub record HasPut (edition : Edition) (all left : Rows) (row : ℕ) (sheet : SheetValue) : Type 0 where
  pub readable : AreReadable all
  pub rows : Rows
  pub split : all ≡ rows ++ left
  pub put : ArePut rows row (blank_sheet edition (sizes_of all)) sheet

-- the records of a part of the lines of a text are the next ones
pub record IsNextPart (part : List ℕ) (row : ℕ) (sheet : SheetValue) : Type 0 where
  pub all : Rows
  pub behind : Rows
  pub has : HasPut sheet.edition all (text_rows part ++ behind) row sheet

-- they were put: this sheet holds them too, and this row is the next one
abbrev pub PutsPart : List ℕ → ℕ → SheetValue → SheetValue × ℕ → Type 0
PutsPart part row sheet done = (all behind : Rows)
    → HasPut sheet.edition all (text_rows part ++ behind) row sheet → HasPut sheet.edition all behind done.1 done.0

-- a refusal other than want of memory is what all records give
abbrev pub IsPartRefusal : List ℕ → ℕ → SheetValue → SheetRefused → Type 0
IsPartRefusal part row sheet refused = (all behind : Rows) → HasPut sheet.edition all (text_rows part ++ behind) row sheet
    → refused ≢ Memory → IsGivenByRecords sheet.edition all (Err refused)

-- some lines of a part were put, up to what is left of it, of whose first fields the next of a list tell what is known
pub record HasPutLines (part left : List ℕ) (first row : ℕ) (old new : SheetValue) (known : Known) : Type 0 where
  pub puts : (all behind : Rows) → HasPut old.edition all (text_rows part ++ behind) first old
      → HasPut old.edition all (text_rows left ++ behind) row new
  pub next : AreNext old.edition known (text_fields left)
  pub few : length left ≤ length part

-- the part of a text that is put next, what is known of it, and the parts behind it
pub record HasPutParts (text part behind : List ℕ) (edition : Edition) (ahead : List (Vec (Option Content))) (filled : SheetValue × ℕ) : Type 0 where
  pub all : Rows
  pub has : AreRecords default_config StartRecord text all
  pub put : HasPut edition all (text_rows part ++ text_rows behind) filled.1 filled.0
  pub begin : Begin edition (in_lists ahead) (text_fields part)
  pub ascii : IsAscii behind
  pub few : length part + length behind ≤ length text

-- so many fields of a line were put into a row, and these bytes are left of it
pub record IsLineFilled (row : ℕ) (line left : List ℕ) (col : ℕ) (old new : SheetValue) (before known : Known) : Type 0 where
  pub part : IsPartFilled row (line_fields [] line) col old new
  pub behind : col < length (line_fields [] line) → drop col (line_fields [] line) ≡ line_fields [] left
  pub next : (more : List (List ℕ)) → AreNext old.edition before (line_fields [] line ++ more)
      → AreNext old.edition known (drop col (line_fields [] line) ++ more)

-- a blank sheet of the sizes of a text's records, which can be read
abbrev pub IsBlankFor : List ℕ → SheetValue → Type 0
IsBlankFor text sheet = (rows : Rows) × AreRecords default_config StartRecord text rows × AreReadable rows
    × (sheet ≡ blank_sheet sheet.edition (sizes_of rows))

-- the sizes of a text's records, which can be read
abbrev pub AreSizesFor : List ℕ → Sizes → Type 0
AreSizesFor text sizes = (rows : Rows) × AreRecords default_config StartRecord text rows × AreReadable rows
    × (sizes ≡ sizes_of rows) × IsSheetSize sizes

-- the sheet of a text's records in an edition
abbrev pub IsFilledWith : List ℕ → Edition → SheetValue → Type 0
IsFilledWith text edition sheet = (rows : Rows) × AreRecords default_config StartRecord text rows × IsSheetOf edition rows sheet

-- a refusal other than want of memory is what a text's records give
abbrev pub IsFillRefusal : List ℕ → Edition → SheetRefused → Type 0
IsFillRefusal text edition e = e ≢ Memory → (rows : Rows) × AreRecords default_config StartRecord text rows × IsGivenByRecords edition rows (Err e)
