-- Filling a sheet field by field.
use Rattle.std.proofs.Common.{◌≡◌, ◌≢◌, ℕ, ◌+◌, ◌-◌, ◌*◌, ◌^◌, ◌<◌, ◌≤◌, List, [], ◌∷◌, ◌++◌, length, get_or, take, inl}
use Rattle.std.proofs.Common.{inr, refl, sym, ◌∙◌, ap, subst, arith, IsTrue, add-one}
use Rattle.std.proofs.lemmas.Bool.{cases_eq}
use Rattle.std.proofs.Math.Seq.{take-suc}
use Rattle.std.proofs.lemmas.List.{append-nil, length-take-le}
use Rattle.sheet_refs.specs.Cells.{Position}
use Rattle.sheet_refs.specs.declared.sizes.Sizes.{Sizes}
use Rattle.std.specs.Prelude.{Option, Some, IfSome}
use Rattle.std.proofs.lemmas.Option.{MatchOption-at_some}
use Rattle.sheet_refs.specs.Sizes.{is_inside}
use Rattle.formula_syntax.specs.declared.edition.Edition.{Edition}
use Rattle.sheet_refs.proofs.Places.{inside_from}
use Rattle.sheet_model.specs.Fields.{IsContent}
use Rattle.sheet_model.specs.Sheets.{SheetValue, IsSheet, IsSheetSize, content_of, with_content, with_labels, blank_sheet}
use Rattle.sheet_model.specs.Tables.{AddsLabels}
use Rattle.sheet_model.specs.Tables.AddsLabels.{done as adds_none}
use Rattle.sheet_model.proofs.SheetLemmas.{sheet_blank, sheet_with_labels, sheet_with_content, held_content}
use Rattle.sheet_model.proofs.SheetLemmas.{table_after, grown_table, content_of-filled, content_of-other}
use Rattle.sheet_model.proofs.SheetLemmas.{content_of-blank, IsContent-after}
use Rattle.sheet_model.proofs.ContentLemmas.{refused_none}
use Rattle.sheet_model.proofs.TableLemmas.{adds_one_more, one_more}
use Rattle.csv_sheet.specs.Filling.{HoldsRecords, PutsField, IsPartFilled, IsRecordFor}
use Rattle.csv_sheet.specs.Records.{Rows, field_at, all_fields, cell_there}
use Rattle.csv_sheet.specs.Results.{IsRefusedFormula}
use Rattle.csv_sheet.proofs.FieldLemmas.{all_more, all_longer, field_new, field_same, field_nothing, place_below}

-- a blank sheet holds no records
pub holds_nothing : (edition : Edition) (sizes : Sizes) → IsSheetSize sizes → HoldsRecords [] (blank_sheet edition sizes)
holds_nothing edition sizes size = record {
  kept = sheet_blank edition sizes size;
  labels = adds_none [] [] [] refl refl;
  cells = λ row col r c. subst (IsContent edition [] (field_at [] row col)) (sym (content_of-blank edition sizes (cell_there row col))) refl;
}

-- an empty record changes nothing
pub holds_row : (rows : Rows) (sheet : SheetValue) → HoldsRecords rows sheet → HoldsRecords (rows ++ [] ∷ []) sheet
holds_row rows sheet holds = record {
  kept = holds.kept;
  labels = subst (λ t. AddsLabels t [] sheet.labels) (sym (all_more rows [] ∙ append-nil (all_fields rows))) holds.labels;
  cells = λ row col r c. subst (λ f. IsContent sheet.edition sheet.labels f (content_of sheet (cell_there row col)))
      (sym (field_nothing rows row col)) (holds.cells row col r c);
}

other_cell : (row col r c : ℕ) → (row ≡ r → col ≢ c) → cell_there row col ≢ cell_there r c
other_cell row col r c apart same =
    let same_row : row + 1 ≡ r + 1 = ap (λ (p : Position). p.row) same in
    let same_col : col + 1 ≡ c + 1 = ap (λ (p : Position). p.col) same in
    let row_is : row ≡ r = omega arith in
    let col_is : col ≡ c = omega arith in
    apart row_is col_is

module _ (rows : Rows) (fields : List (List ℕ)) (field : List ℕ) (old new : SheetValue)
    (inside : IsTrue (is_inside old.sizes (cell_there (length rows) (length fields))))
    (put : PutsField field (cell_there (length rows) (length fields)) old new) where
  abbrev labelled : SheetValue
  labelled = with_labels old new.labels

  abbrev filled : SheetValue
  filled = with_content labelled (cell_there (length rows) (length fields)) put.content

  pub sizes_kept : new.sizes ≡ old.sizes
  sizes_kept = ap (λ (s : SheetValue). s.sizes) put.placed

  pub edition_kept : new.edition ≡ old.edition
  edition_kept = ap (λ (s : SheetValue). s.edition) put.placed

  pub labels_few : length new.labels ≤ length old.labels + 1
  labels_few = one_more field old.labels new.labels put.table

  sheet_labelled : IsSheet old → length old.labels < 2 ^ 32 - 1 → IsSheet labelled
  sheet_labelled is room =
      sheet_with_labels old new.labels is (table_after field old.labels new.labels room is.table put.table)
      (grown_table field old.labels new.labels put.table)

  sheet_filled : IsSheet old → length old.labels < 2 ^ 32 - 1 → IsSheet new
  sheet_filled is room = subst IsSheet (sym put.placed)
      (sheet_with_content labelled (cell_there (length rows) (length fields)) put.content (sheet_labelled is room)
      (held_content old.edition new.labels field put.content (sheet_labelled is room).table
      (omega (arith, put.short)) put.writes))

  kept_cell : IsSheet labelled → (row col : ℕ) → (row ≡ length rows → col ≢ length fields)
      → IsContent old.edition old.labels (field_at (rows ++ fields ∷ []) row col) (content_of old (cell_there row col))
      → IsContent old.edition new.labels (field_at (rows ++ (fields ++ field ∷ []) ∷ []) row col) (content_of new (cell_there row col))
  kept_cell is row col apart was =
      let here : content_of new (cell_there row col) ≡ content_of old (cell_there row col) =
      ap (λ s. content_of s (cell_there row col)) put.placed
      ∙ content_of-other labelled (cell_there (length rows) (length fields)) put.content inside (cell_there row col)
      (other_cell row col (length rows) (length fields) apart) in
      let grown : IsContent old.edition new.labels (field_at (rows ++ fields ∷ []) row col) (content_of old (cell_there row col)) =
      IsContent-after old.edition field old.labels new.labels (field_at (rows ++ fields ∷ []) row col) (content_of old (cell_there row col)) put.table was in
      subst (λ f. IsContent old.edition new.labels f (content_of new (cell_there row col))) (sym (field_same rows fields field row col apart))
      (subst (IsContent old.edition new.labels (field_at (rows ++ fields ∷ []) row col)) (sym here) grown)

  cell_filled : IsSheet labelled → (row col : ℕ) → row < old.sizes.rows → col < old.sizes.cols
      → IsContent old.edition old.labels (field_at (rows ++ fields ∷ []) row col) (content_of old (cell_there row col))
      → IsContent old.edition new.labels (field_at (rows ++ (fields ++ field ∷ []) ∷ []) row col) (content_of new (cell_there row col))
  cell_filled is row col r c was = elim (cases_eq row (length rows)) [
    | inl row_is ↦ elim (cases_eq col (length fields)) [
      | inl col_is ↦
          let here : content_of new (cell_there (length rows) (length fields)) ≡ put.content =
          ap (λ s. content_of s (cell_there (length rows) (length fields))) put.placed
          ∙ content_of-filled labelled (cell_there (length rows) (length fields)) put.content inside is.filled in
          subst (λ k. IsContent old.edition new.labels (field_at (rows ++ (fields ++ field ∷ []) ∷ []) k col) (content_of new (cell_there k col))) (sym row_is)
          (subst (λ k. IsContent old.edition new.labels (field_at (rows ++ (fields ++ field ∷ []) ∷ []) (length rows) k)
          (content_of new (cell_there (length rows) k))) (sym col_is)
          (subst (λ f. IsContent old.edition new.labels f (content_of new (cell_there (length rows) (length fields)))) (sym (field_new rows fields field))
          (subst (IsContent old.edition new.labels field) (sym here) put.writes)))
      | inr apart ↦ kept_cell is row col (λ same. apart) was
    ]
    | inr apart ↦ kept_cell is row col (λ same. absurd (apart same)) was
  ]

  -- one field more
  pub holds_field : length old.labels < 2 ^ 32 - 1 → HoldsRecords (rows ++ fields ∷ []) old → HoldsRecords (rows ++ (fields ++ field ∷ []) ∷ []) new
  holds_field room holds = record {
    kept = sheet_filled holds.kept room;
    labels = subst (λ t. AddsLabels t [] new.labels) (sym (all_longer rows fields field))
        (adds_one_more (all_fields (rows ++ fields ∷ [])) field [] old.labels new.labels holds.labels put.table);
    cells = λ row col r c.
        let below : row < old.sizes.rows = subst (λ (s : Sizes). row < s.rows) sizes_kept r in
        let beside : col < old.sizes.cols = subst (λ (s : Sizes). col < s.cols) sizes_kept c in
        subst (λ (e : Edition). IsContent e new.labels (field_at (rows ++ (fields ++ field ∷ []) ∷ []) row col)
        (content_of new (cell_there row col))) (sym edition_kept)
        (cell_filled (sheet_labelled holds.kept room) row col below beside (holds.cells row col below beside));
  }

  -- the field isn't refused
  pub not_refused : ¬ IsRefusedFormula old.edition field
  not_refused refused = refused_none old.edition new.labels field put.content refused put.writes

-- one field more of a record
pub part_more : (row : ℕ) (fields : List (List ℕ)) (col : ℕ) (old between new : SheetValue)
    → col < length fields → length between.labels < 2 ^ 32 - 1 → IsTrue (is_inside between.sizes (cell_there row col))
    → IsPartFilled row fields col old between → PutsField (get_or fields col []) (cell_there row col) between new → IsPartFilled row fields (col + 1) old new
part_more row fields col old between new within room inside part put = record {
  filled = λ rows at holds.
      let put_there = subst (λ k. PutsField (get_or fields col []) (cell_there k (length (take col fields))) between
      new) (sym at) (subst (λ k. PutsField (get_or fields col []) (cell_there row k) between new) (sym taken) put)
      in
      let inside_there = subst (λ k. IsTrue (is_inside between.sizes (cell_there k (length (take col fields)))))
      (sym at) (subst (λ k. IsTrue (is_inside between.sizes (cell_there row k))) (sym taken) inside) in
      let more = holds_field rows (take col fields) (get_or fields col []) between new inside_there put_there room (part.filled rows at holds) in
      subst (λ fs. HoldsRecords (rows ++ fs ∷ []) new) (sym taken_more) more;
  edition = ap (λ (s : SheetValue). s.edition) put.placed ∙ part.edition;
  sizes = ap (λ (s : SheetValue). s.sizes) put.placed ∙ part.sizes;
  few = (let one = one_more (get_or fields col []) between.labels new.labels put.table in let few = part.few in omega (arith, one, few));
  clean = λ k less. clean k less;
}
  where
    taken : length (take col fields) ≡ col
    taken = length-take-le col fields (omega (arith, within))

    taken_more : take (col + 1) fields ≡ take col fields ++ get_or fields col [] ∷ []
    taken_more = rw add-one (take-suc fields col [] within)

    clean : (k : ℕ) → k < col + 1 → ¬ IsRefusedFormula old.edition (get_or fields k [])
    clean k less refused = elim (cases_eq k col) [
      | inl same ↦ refused_none between.edition new.labels (get_or fields col []) put.content
          (subst (λ (e : Edition). IsRefusedFormula e (get_or fields col [])) (sym part.edition)
          (subst (λ j. IsRefusedFormula old.edition (get_or fields j [])) same refused)) put.writes
      | inr apart ↦ part.clean k (omega (arith, less, apart)) refused
    ]

-- no field of a record
pub part_none : (row : ℕ) (fields : List (List ℕ)) (old : SheetValue) → length old.labels ≤ row * old.sizes.cols → IsPartFilled row fields 0 old old
part_none row fields old few = record {
  filled = λ rows at holds. holds_row rows old holds;
  edition = refl;
  sizes = refl;
  few = omega (arith, few);
  clean = λ k less. absurd (omega (arith, less));
}

-- the cell of a row and a column
pub made_there : (found : Option Position) (cell : Position) (row col : ℕ)
    → IfSome found (λ c. (c.row ≡ row + 1) × (c.col ≡ col + 1)) → found ≡ Some cell → cell ≡ cell_there row col
made_there found cell row col position is =
    let parts = MatchOption-at_some _ _ cell is position in
    λ i. record { row = parts.0 i; col = parts.1 i }

-- one field more, where the record fits the sheet
pub part_step : (row : ℕ) (fields : List (List ℕ)) (col : ℕ) (old between new : SheetValue) (cell : Position) (field : List ℕ)
    → IsRecordFor old row fields → col < length fields → IsPartFilled row fields col old between
    → cell ≡ cell_there row col → field ≡ get_or fields col [] → PutsField field cell between new → IsPartFilled row fields (col + 1) old new
part_step row fields col old between new cell field record_for within part there is put =
    let narrow = record_for.narrow in
    let beside : col < old.sizes.cols = omega (arith, within, narrow) in
    let few = part.few in
    let all = record_for.kept.size.cells in
    let below = place_below row col old.sizes.rows old.sizes.cols record_for.within beside in
    let room : length between.labels < 2 ^ 32 - 1 = omega (arith, few, all, below) in
    let inside : IsTrue (is_inside old.sizes (cell_there row col)) = inside_from old.sizes (cell_there row col)
    (record { row_from = omega arith; row_to = (let w = record_for.within in omega (arith, w)); col_from = omega arith; col_to = omega (arith, beside) }) in
    let inside_now = subst (λ (s : Sizes). IsTrue (is_inside s (cell_there row col))) (sym part.sizes) inside in
    let put_there = subst (λ k. PutsField (get_or fields col []) k between new) there (subst (λ f. PutsField f cell between new) is put) in
    part_more row fields col old between new within room inside_now part put_there
