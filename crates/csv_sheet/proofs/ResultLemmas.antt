-- A text gives one thing.
use Rattle.std.proofs.Common.{◌≡◌, ℕ, ◌+◌, ◌-◌, ◌<◌, ◌≤◌, List, [], length, inl, inr, ◌⊎◌, sym, ◌∙◌, ap, subst, arith, Result, Ok, Err, Option, Some, None}
use Rattle.std.proofs.lemmas.Bool.{cases_order}
use Rattle.std.proofs.lemmas.List.{get_or_past}
use Rattle.csv.specs.Reading.{default_config}
use Rattle.csv.specs.declared.parser.State.TheVariants.{StartRecord}
use Rattle.sheet_refs.specs.Cells.{Position}
use Rattle.sheet_refs.specs.declared.sizes.Sizes.{Sizes}
use Rattle.sheet_refs.proofs.Places.{IsInside, inside_bounds}
use Rattle.formula_syntax.specs.declared.edition.Edition.{Edition}
use Rattle.formula_syntax.specs.Spelling.{HasTooManyRefs}
use Rattle.sheet_model.specs.Fields.{IsContent, IsDeepFormula}
use Rattle.sheet_model.specs.Sheets.{SheetValue, content_of}
use Rattle.sheet_model.proofs.ContentLemmas.{one_content, refused_none}
use Rattle.sheet_model.proofs.SameSheets.{same_sheet}
use Rattle.sheet_model.proofs.TableLemmas.{adds_one}
use Rattle.csv_sheet.specs.Records.{Rows, fields_at, field_at, all_fields, cell_there, longest, without_marks}
use Rattle.csv_sheet.specs.Results.{AreText, IsFirstNotText, IsPlaceBefore, NoField, IsFirstField, IsLong}
use Rattle.csv_sheet.specs.Results.{IsRefusedFormula, IsSheetOf, IsFirstRefused, IsGivenByRecords, IsRecordsResult}
use Rattle.csv_sheet.specs.Results.{IsHeadedResult, IsSheetResult}
use Rattle.csv_sheet.specs.Headings.{HeadedText, heading_of}
use Rattle.csv_sheet.specs.declared.refused.SheetRefused.{SheetRefused}
use Rattle.csv_sheet.specs.declared.refused.SheetRefused.TheVariants.{NotUtf8, TooManyCells, FieldTooLong, FormulaTooDeep, TooManyRefs, UnknownEdition, Memory}
use Rattle.csv_sheet.proofs.FieldLemmas.{longest_of}
use Rattle.csv_sheet.proofs.RecordLemmas.{one_rows}

one_number : (rows : Rows) (a b : ℕ) → IsFirstNotText rows a → IsFirstNotText rows b → a ≡ b
one_number rows a b x y = elim (cases_order x.row y.row) [
  | inl same ↦ x.number_is ∙ ap (λ r. r + 1) same ∙ sym y.number_is
  | inr apart ↦ elim apart [
    | inl before ↦ absurd (x.not_text (y.before x.row before))
    | inr after ↦ absurd (y.not_text (x.before y.row after))
  ]
]

not_text : (rows : Rows) (number : ℕ) → IsFirstNotText rows number → AreText rows → ⊥
not_text rows number first text = first.not_text (text first.row [] first.there)

-- of two places one is before the other, or they are the same
in_order : (r c row col : ℕ) → ((r ≡ row) × (c ≡ col)) ⊎ (IsPlaceBefore r c row col ⊎ IsPlaceBefore row col r c)
in_order r c row col = elim (cases_order r row) [
  | inl same ↦ elim (cases_order c col) [
    | inl same_col ↦ inl (same, same_col)
    | inr apart ↦ elim apart [ inl before ↦ inr (inl (inr (same, before))) | inr after ↦ inr (inr (inr (sym same, after))) ]
  ]
  | inr apart ↦ elim apart [ inl before ↦ inr (inl (inl before)) | inr after ↦ inr (inr (inl after)) ]
]

one_first : (P : List ℕ → Type 0) (rows : Rows) (a b : Position) → IsFirstField P rows a → IsFirstField P rows b → a ≡ b
one_first P rows a b x y = elim (in_order x.row x.col y.row y.col) [
  | inl same ↦ x.cell_is ∙ (λ i. cell_there (same.0 i) (same.1 i)) ∙ sym y.cell_is
  | inr apart ↦ elim apart [
    | inl before ↦ absurd (y.before x.row x.col before x.there x.is)
    | inr after ↦ absurd (x.before y.row y.col after y.there y.is)
  ]
]

no_first : (P : List ℕ → Type 0) (rows : Rows) (cell : Position) → IsFirstField P rows cell → NoField P rows → ⊥
no_first P rows cell first none = none first.row first.col first.there first.is

-- a field of a record stands in the rectangle
pub field_inside : (rows : Rows) (row col : ℕ) → col < length (fields_at rows row) → (row < length rows) × (col < longest rows)
field_inside rows row col within = elim (cases_order row (length rows)) [
  | inl at ↦ absurd (past row (omega (arith, at)) within)
  | inr other ↦ elim other [
    | inl before ↦ (before, longest_of rows row col before within)
    | inr after ↦ absurd (past row (omega (arith, after)) within)
  ]
]
  where
    past : (k : ℕ) → length rows ≤ k → col < length (fields_at rows k) → ⊥
    past k beyond inside =
        let nothing : col < length {A = List ℕ} [] = subst (λ fs. col < length fs) (get_or_past rows k [] beyond) inside in
        omega (arith, nothing)

-- no formula of a sheet is refused
none_refused : (edition : Edition) (rows : Rows) (sheet : SheetValue) → IsSheetOf edition rows sheet → NoField (IsRefusedFormula edition) rows
none_refused edition rows sheet is row col within refused =
    let inside = field_inside rows row col within in
    refused_none edition sheet.labels (field_at rows row col) (content_of sheet (cell_there row col)) refused (is.cells row col inside.0 inside.1)

same_cell : (cell : Position) → 1 ≤ cell.row → 1 ≤ cell.col → cell_there (cell.row - 1) (cell.col - 1) ≡ cell
same_cell cell row_from col_from =
    let row_is : cell.row - 1 + 1 ≡ cell.row = omega (arith, row_from) in
    let col_is : cell.col - 1 + 1 ≡ cell.col = omega (arith, col_from) in
    λ i. record { row = row_is i; col = col_is i }

one_sheet : (edition : Edition) (rows : Rows) (a b : SheetValue) → IsSheetOf edition rows a → IsSheetOf edition rows b → a ≡ b
one_sheet edition rows a b x y =
    let sizes : a.sizes ≡ b.sizes = x.sizes ∙ sym y.sizes in
    let labels : a.labels ≡ b.labels = adds_one (all_fields rows) [] a.labels b.labels x.labels y.labels in
    same_sheet a b x.kept y.kept (x.edition_is ∙ sym y.edition_is) sizes labels (λ cell inside. cells cell labels (inside_bounds a.sizes cell inside))
  where
    cells : (cell : Position) → a.labels ≡ b.labels → IsInside a.sizes cell → content_of a cell ≡ content_of b cell
    cells cell labels bounds =
        let row_to : cell.row ≤ length rows = subst (λ (s : Sizes). cell.row ≤ s.rows) x.sizes bounds.row_to in
        let col_to : cell.col ≤ longest rows = subst (λ (s : Sizes). cell.col ≤ s.cols) x.sizes bounds.col_to in
        let row_from = bounds.row_from in
        let col_from = bounds.col_from in
        let row_lt : cell.row - 1 < length rows = omega (arith, row_to, row_from) in
        let col_lt : cell.col - 1 < longest rows = omega (arith, col_to, col_from) in
        let back : cell_there (cell.row - 1) (cell.col - 1) ≡ cell = same_cell cell row_from col_from in
        let in_a =
        subst (λ k. IsContent edition a.labels (field_at rows (cell.row - 1) (cell.col - 1)) (content_of a k)) back
        (x.cells (cell.row - 1) (cell.col - 1) row_lt col_lt) in
        let in_b =
        subst (λ k. IsContent edition b.labels (field_at rows (cell.row - 1) (cell.col - 1)) (content_of b k)) back
        (y.cells (cell.row - 1) (cell.col - 1) row_lt col_lt) in
        one_content edition a.labels (field_at rows (cell.row - 1) (cell.col - 1)) (content_of a cell) (content_of b cell) x.kept.table in_a
        (subst (λ t. IsContent edition t (field_at rows (cell.row - 1) (cell.col - 1)) (content_of b cell)) (sym labels) in_b)

-- a formula that is too deep has no number of references
deep_not_many : (edition : Edition) (rows : Rows) (a b : Position) → IsFirstRefused edition IsDeepFormula rows a
    → IsFirstRefused edition (HasTooManyRefs edition) rows b → ⊥
deep_not_many edition rows a b x y =
    let same : a ≡ b = one_first (IsRefusedFormula edition) rows a b x.first y.first in
    let deep = subst (λ (k : Position). IsDeepFormula (field_at rows (k.row - 1) (k.col - 1))) same x.why in
    y.why.0 deep.deep

one_answer : (edition : Edition) (rows : Rows) (a b : Result SheetValue SheetRefused) → IsGivenByRecords edition rows a
    → IsGivenByRecords edition rows b → a ≡ b
one_answer edition rows (Ok a) (Ok b) x y = ap Ok (one_sheet edition rows a b x y)
one_answer edition rows (Ok a) (Err (NotUtf8 b)) x y = absurd (not_text rows b y x.readable.text)
one_answer edition rows (Ok a) (Err (TooManyCells b b')) x y = absurd (x.readable.fits y.1)
one_answer edition rows (Ok a) (Err (FieldTooLong b)) x y = absurd (no_first IsLong rows b y.2 x.readable.short)
one_answer edition rows (Ok a) (Err (FormulaTooDeep b)) x y = absurd (no_first (IsRefusedFormula edition) rows b y.first (none_refused edition rows a x))
one_answer edition rows (Ok a) (Err (TooManyRefs b)) x y = absurd (no_first (IsRefusedFormula edition) rows b y.first (none_refused edition rows a x))
one_answer edition rows (Ok a) (Err Memory) x y = absurd y
one_answer edition rows (Ok a) (Err UnknownEdition) x y = absurd y
one_answer edition rows (Err (NotUtf8 a)) (Ok b) x y = absurd (not_text rows a x y.readable.text)
one_answer edition rows (Err (NotUtf8 a)) (Err (NotUtf8 b)) x y = ap (λ n. Err (NotUtf8 n)) (one_number rows a b x y)
one_answer edition rows (Err (NotUtf8 a)) (Err (TooManyCells b b')) x y = absurd (not_text rows a x y.0)
one_answer edition rows (Err (NotUtf8 a)) (Err (FieldTooLong b)) x y = absurd (not_text rows a x y.0)
one_answer edition rows (Err (NotUtf8 a)) (Err (FormulaTooDeep b)) x y = absurd (not_text rows a x y.readable.text)
one_answer edition rows (Err (NotUtf8 a)) (Err (TooManyRefs b)) x y = absurd (not_text rows a x y.readable.text)
one_answer edition rows (Err (NotUtf8 a)) (Err Memory) x y = absurd y
one_answer edition rows (Err (NotUtf8 a)) (Err UnknownEdition) x y = absurd y
one_answer edition rows (Err (TooManyCells a a')) (Ok b) x y = absurd (y.readable.fits x.1)
one_answer edition rows (Err (TooManyCells a a')) (Err (NotUtf8 b)) x y = absurd (not_text rows b y x.0)
one_answer edition rows (Err (TooManyCells a a')) (Err (TooManyCells b b')) x y = (let e = x.2 ∙ sym y.2 in
    let d = x.3 ∙ sym y.3 in λ i. Err (TooManyCells (e i) (d i)))
one_answer edition rows (Err (TooManyCells a a')) (Err (FieldTooLong b)) x y = absurd (y.1 x.1)
one_answer edition rows (Err (TooManyCells a a')) (Err (FormulaTooDeep b)) x y = absurd (y.readable.fits x.1)
one_answer edition rows (Err (TooManyCells a a')) (Err (TooManyRefs b)) x y = absurd (y.readable.fits x.1)
one_answer edition rows (Err (TooManyCells a a')) (Err Memory) x y = absurd y
one_answer edition rows (Err (TooManyCells a a')) (Err UnknownEdition) x y = absurd y
one_answer edition rows (Err (FieldTooLong a)) (Ok b) x y = absurd (no_first IsLong rows a x.2 y.readable.short)
one_answer edition rows (Err (FieldTooLong a)) (Err (NotUtf8 b)) x y = absurd (not_text rows b y x.0)
one_answer edition rows (Err (FieldTooLong a)) (Err (TooManyCells b b')) x y = absurd (x.1 y.1)
one_answer edition rows (Err (FieldTooLong a)) (Err (FieldTooLong b)) x y = ap (λ k. Err (FieldTooLong k)) (one_first IsLong rows a b x.2 y.2)
one_answer edition rows (Err (FieldTooLong a)) (Err (FormulaTooDeep b)) x y = absurd (no_first IsLong rows a x.2 y.readable.short)
one_answer edition rows (Err (FieldTooLong a)) (Err (TooManyRefs b)) x y = absurd (no_first IsLong rows a x.2 y.readable.short)
one_answer edition rows (Err (FieldTooLong a)) (Err Memory) x y = absurd y
one_answer edition rows (Err (FieldTooLong a)) (Err UnknownEdition) x y = absurd y
one_answer edition rows (Err (FormulaTooDeep a)) (Ok b) x y = absurd (no_first (IsRefusedFormula edition) rows a x.first (none_refused edition rows b y))
one_answer edition rows (Err (FormulaTooDeep a)) (Err (NotUtf8 b)) x y = absurd (not_text rows b y x.readable.text)
one_answer edition rows (Err (FormulaTooDeep a)) (Err (TooManyCells b b')) x y = absurd (x.readable.fits y.1)
one_answer edition rows (Err (FormulaTooDeep a)) (Err (FieldTooLong b)) x y = absurd (no_first IsLong rows b y.2 x.readable.short)
one_answer edition rows (Err (FormulaTooDeep a)) (Err (FormulaTooDeep b)) x y =
    ap (λ k. Err (FormulaTooDeep k)) (one_first (IsRefusedFormula edition) rows a b x.first y.first)
one_answer edition rows (Err (FormulaTooDeep a)) (Err (TooManyRefs b)) x y = absurd (deep_not_many edition rows a b x y)
one_answer edition rows (Err (FormulaTooDeep a)) (Err Memory) x y = absurd y
one_answer edition rows (Err (FormulaTooDeep a)) (Err UnknownEdition) x y = absurd y
one_answer edition rows (Err (TooManyRefs a)) (Ok b) x y = absurd (no_first (IsRefusedFormula edition) rows a x.first (none_refused edition rows b y))
one_answer edition rows (Err (TooManyRefs a)) (Err (NotUtf8 b)) x y = absurd (not_text rows b y x.readable.text)
one_answer edition rows (Err (TooManyRefs a)) (Err (TooManyCells b b')) x y = absurd (x.readable.fits y.1)
one_answer edition rows (Err (TooManyRefs a)) (Err (FieldTooLong b)) x y = absurd (no_first IsLong rows b y.2 x.readable.short)
one_answer edition rows (Err (TooManyRefs a)) (Err (FormulaTooDeep b)) x y = absurd (deep_not_many edition rows b a y x)
one_answer edition rows (Err (TooManyRefs a)) (Err (TooManyRefs b)) x y =
    ap (λ k. Err (TooManyRefs k)) (one_first (IsRefusedFormula edition) rows a b x.first y.first)
one_answer edition rows (Err (TooManyRefs a)) (Err Memory) x y = absurd y
one_answer edition rows (Err (TooManyRefs a)) (Err UnknownEdition) x y = absurd y
one_answer edition rows (Err Memory) (Ok b) x y = absurd x
one_answer edition rows (Err Memory) (Err (NotUtf8 b)) x y = absurd x
one_answer edition rows (Err Memory) (Err (TooManyCells b b')) x y = absurd x
one_answer edition rows (Err Memory) (Err (FieldTooLong b)) x y = absurd x
one_answer edition rows (Err Memory) (Err (FormulaTooDeep b)) x y = absurd x
one_answer edition rows (Err Memory) (Err (TooManyRefs b)) x y = absurd x
one_answer edition rows (Err Memory) (Err Memory) x y = absurd x
one_answer edition rows (Err Memory) (Err UnknownEdition) x y = absurd x
one_answer edition rows (Err UnknownEdition) (Ok b) x y = absurd x
one_answer edition rows (Err UnknownEdition) (Err (NotUtf8 b)) x y = absurd x
one_answer edition rows (Err UnknownEdition) (Err (TooManyCells b b')) x y = absurd x
one_answer edition rows (Err UnknownEdition) (Err (FieldTooLong b)) x y = absurd x
one_answer edition rows (Err UnknownEdition) (Err (FormulaTooDeep b)) x y = absurd x
one_answer edition rows (Err UnknownEdition) (Err (TooManyRefs b)) x y = absurd x
one_answer edition rows (Err UnknownEdition) (Err Memory) x y = absurd x
one_answer edition rows (Err UnknownEdition) (Err UnknownEdition) x y = absurd x

one_records : (edition : Edition) (records : List ℕ) (a b : Result SheetValue SheetRefused)
    → IsRecordsResult edition records a → IsRecordsResult edition records b → a ≡ b
one_records edition records a b x y =
    let same : y.rows ≡ x.rows = one_rows default_config StartRecord records y.rows x.rows y.has x.has in
    one_answer edition x.rows a b x.answer (subst (λ rows. IsGivenByRecords edition rows b) same y.answer)

one_headed : (heading : Option HeadedText) (a b : Result SheetValue SheetRefused) → IsHeadedResult heading a → IsHeadedResult heading b → a ≡ b
one_headed None a b x y = x ∙ sym y
one_headed (Some heading) a b x y = one_records heading.edition heading.records a b x y

pub one_result : (text : List ℕ) (a b : Result SheetValue SheetRefused) → IsSheetResult text a → IsSheetResult text b → a ≡ b
one_result text a b x y = one_headed (heading_of (without_marks text)) a b x y
