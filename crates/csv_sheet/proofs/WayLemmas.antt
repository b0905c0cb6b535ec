-- Records that are read and put into a sheet one after the other.
use Rattle.std.proofs.Common.{◌≡◌, ◌≢◌, ℕ, ◌+◌, ◌-◌, ◌*◌, ◌<◌, ◌≤◌, List, [], ◌∷◌, ◌++◌, length, get_or, inl, inr, refl}
use Rattle.std.proofs.Common.{sym, ◌∙◌, ap, subst, arith, Err, length-append, append_assoc}
use Rattle.std.proofs.Common.{ap₂, drop, take}
use Rattle.std.specs.List.{prefix_len}
use Rattle.std.proofs.Math.ListN.{get_or-append}
use Rattle.std.proofs.Math.Seq.{get_or-append_seam}
use Rattle.std.proofs.lemmas.List.{append-nil}
use Rattle.csv.specs.Reading.{AreRecords, Reached, default_config}
use Rattle.csv.specs.Records.{AllText}
use Rattle.csv.specs.declared.parser.State.{State}
use Rattle.csv.specs.declared.parser.State.TheVariants.{StartRecord}
use Rattle.sheet_refs.specs.declared.sizes.Sizes.{Sizes}
use Rattle.formula_syntax.specs.declared.edition.Edition.{Edition}
use Rattle.formula_syntax.specs.Spelling.{HasTooManyRefs}
use Rattle.sheet_model.specs.Fields.{IsContent, IsDeepFormula}
use Rattle.sheet_model.specs.Sheets.{SheetValue, IsSheetSize, content_of, blank_sheet}
use Rattle.sheet_model.specs.Tables.{AddsLabels}
use Rattle.sheet_model.proofs.ContentLemmas.{refused_none}
use Rattle.csv_sheet.specs.Filling.{AreSizesFor, HasPut, HoldsRecords, IsPartRefusal, IsRecordFor, IsRowRefusal, ArePut, PutsPart}
use Rattle.csv_sheet.specs.Lines.{IsPlain, goes_on, line_fields, rows_in, text_rows}
use Rattle.csv_sheet.specs.Records.{Rows, fields_at, field_at, all_fields, cell_there, longest, sizes_of}
use Rattle.csv_sheet.specs.Results.{AreReadable, IsSheetOf, IsGivenByRecords, IsTooLarge, IsPlaceBefore, IsFirstField, IsFirstRefused, IsRefusedFormula, IsLong}
use Rattle.csv_sheet.specs.declared.refused.SheetRefused.{SheetRefused}
use Rattle.csv_sheet.specs.declared.refused.SheetRefused.TheVariants.{NotUtf8, TooManyCells, FieldTooLong, FormulaTooDeep, TooManyRefs, UnknownEdition, Memory}
use Rattle.csv_sheet.proofs.FieldLemmas.{few_rows, longest_at, longest_of}
use Rattle.csv_sheet.proofs.FillLemmas.{holds_nothing}
use Rattle.csv_sheet.proofs.LineLemmas.{first_line, no_rows, none_in, plain_rows, some_row}
use Rattle.csv_sheet.proofs.RecordLemmas.{rows_in_front, one_rows, has_columns}

-- the record behind those that were read
next_fields : (before rest : Rows) (fields : List (List ℕ)) → fields_at ((before ++ fields ∷ []) ++ rest) (length before) ≡ fields
next_fields before rest fields = ap (λ rows. fields_at rows (length before)) (append_assoc before (fields ∷ []) rest) ∙ get_or-append_seam before fields rest []

module _ (all before rest : Rows) (fields : List (List ℕ)) (whole : all ≡ (before ++ fields ∷ []) ++ rest) (readable : AreReadable all) where
  here : fields_at all (length before) ≡ fields
  here = ap (λ rows. fields_at rows (length before)) whole ∙ next_fields before rest fields

  below : length before < length all
  below =
      let e : length all ≡ length ((before ++ fields ∷ []) ++ rest) = ap length whole in
      let d = length-append (before ++ fields ∷ []) rest in
      let f = length-append before (fields ∷ []) in
      omega (arith, e, d, f)

  -- it fits the sheet
  pub record_fits : (sheet : SheetValue) → HoldsRecords before sheet → sheet.sizes ≡ sizes_of all
      → length sheet.labels ≤ length before * sheet.sizes.cols → IsRecordFor sheet (length before) fields
  record_fits sheet holds sizes few = record {
    kept = holds.kept;
    within = subst (λ (s : Sizes). length before < s.rows) (sym sizes) below;
    narrow =
        subst (λ (s : Sizes). length fields ≤ s.cols) (sym sizes) (subst (λ rows. length fields ≤ longest rows)
        (sym whole) (longest_at before rest fields));
    text = subst AllText here (readable.text (length before) [] below);
    short = λ col within long. readable.short (length before) col (subst (λ fs. col < length fs) (sym here) within)
        (subst (λ fs. IsLong (get_or fs col [])) (sym here) long);
    few = few;
  }

  old_field : (r c : ℕ) → r < length before → field_at all r c ≡ field_at before r c
  old_field r c less =
      let front : all ≡ before ++ (fields ∷ rest) = whole ∙ append_assoc before (fields ∷ []) rest in
      ap (λ rows. field_at rows r c) front ∙ ap (λ fs. get_or fs c []) (get_or-append before (fields ∷ rest) [] r less)

  -- no formula in the records before it is refused
  earlier_kept : (sheet : SheetValue) → HoldsRecords before sheet → sheet.sizes ≡ sizes_of all → (r c : ℕ)
      → r < length before → c < length (fields_at all r) → ¬ IsRefusedFormula sheet.edition (field_at all r c)
  earlier_kept sheet holds sizes r c less within refused =
      let row_below : r < length all = (let b = below in omega (arith, less, b)) in
      let beside : c < longest all = longest_of all r c row_below within in
      let same : field_at all r c ≡ field_at before r c = old_field r c less in
      refused_none sheet.edition sheet.labels (field_at before r c) (content_of sheet (cell_there r c)) (subst (IsRefusedFormula sheet.edition) same refused)
      (holds.cells r c (subst (λ (s : Sizes). r < s.rows) (sym sizes) row_below) (subst (λ (s : Sizes). c < s.cols) (sym sizes) beside))

  first_here : (sheet : SheetValue) → HoldsRecords before sheet → sheet.sizes ≡ sizes_of all → (col : ℕ)
      → col < length fields → IsRefusedFormula sheet.edition (get_or fields col [])
      → ((c : ℕ) → c < col → ¬ IsRefusedFormula sheet.edition (get_or fields c []))
      → IsFirstField (IsRefusedFormula sheet.edition) all (cell_there (length before) col)
  first_here sheet holds sizes col within refused clean = record {
    row = length before;
    col = col;
    cell_is = refl;
    there = subst (λ fs. col < length fs) (sym here) within;
    is = subst (λ fs. IsRefusedFormula sheet.edition (get_or fs col [])) (sym here) refused;
    before = λ r c earlier inside. by r c earlier inside;
  }
    where
      by : (r c : ℕ) → IsPlaceBefore r c (length before) col → c < length (fields_at all r) → ¬ IsRefusedFormula sheet.edition (field_at all r c)
      by r c (inl less) inside = earlier_kept sheet holds sizes r c less inside
      by r c (inr same) inside = λ refused_there.
          clean c same.1 (subst (λ fs. IsRefusedFormula sheet.edition (get_or fs c [])) (ap (fields_at all) same.0 ∙ here) refused_there)

  why_here : (Why : List ℕ → Type 0) (col : ℕ) → Why (get_or fields col []) → Why (field_at all (length before + 1 - 1) (col + 1 - 1))
  why_here Why col why =
      let row_is : length before + 1 - 1 ≡ length before = omega arith in
      let col_is : col + 1 - 1 ≡ col = omega arith in
      subst (λ k. Why (field_at all k (col + 1 - 1))) (sym row_is) (subst (λ k. Why (field_at all (length before) k))
      (sym col_is) (subst (λ fs. Why (get_or fs col [])) (sym here) why))

  -- a record that is refused tells what the text gives
  pub row_refused : (sheet : SheetValue) → HoldsRecords before sheet → sheet.sizes ≡ sizes_of all
      → (refused : SheetRefused) → refused ≢ Memory → IsRowRefusal sheet.edition (length before) fields refused
      → IsGivenByRecords sheet.edition all (Err refused)
  row_refused sheet holds sizes (NotUtf8 number) other is = absurd is.why
  row_refused sheet holds sizes (TooManyCells height width) other is = absurd is.why
  row_refused sheet holds sizes (FieldTooLong at) other is = absurd is.why
  row_refused sheet holds sizes (FormulaTooDeep at) other is =
      subst (λ k. IsFirstRefused sheet.edition IsDeepFormula all k) (sym is.why.0)
      (record {
        readable = readable;
        first = first_here sheet holds sizes is.col is.within (inl is.why.1) is.before;
        why = why_here IsDeepFormula is.col is.why.1;
      })
  row_refused sheet holds sizes (TooManyRefs at) other is =
      subst (λ k. IsFirstRefused sheet.edition (HasTooManyRefs sheet.edition) all k) (sym is.why.0)
      (record {
        readable = readable;
        first = first_here sheet holds sizes is.col is.within (inr is.why.1) is.before;
        why = why_here (HasTooManyRefs sheet.edition) is.col is.why.1;
      })
  row_refused sheet holds sizes UnknownEdition other is = absurd is.why
  row_refused sheet holds sizes Memory other is = absurd (other refl)

-- the records in front of one were put into a sheet that was blank
module _ (all before rest : Rows) (fields : List (List ℕ)) (whole : all ≡ (before ++ fields ∷ []) ++ rest) (readable : AreReadable all)
    (edition : Edition) (row : ℕ) (sheet : SheetValue) (put : ArePut before row (blank_sheet edition (sizes_of all)) sheet) where
  -- it fits the sheet
  pub fits_row : IsRecordFor sheet row fields
  fits_row =
      let few : length sheet.labels ≤ length before * sheet.sizes.cols =
      subst (λ k. length sheet.labels ≤ k * sheet.sizes.cols) (sym put.count)
      (subst (λ (s : Sizes). length sheet.labels ≤ row * s.cols) (sym put.sizes) put.few) in
      subst (λ k. IsRecordFor sheet k fields) put.count (record_fits all before rest fields whole readable sheet put.holds put.sizes few)

  -- where it is refused, that is what the text gives
  pub refused_row : (refused : SheetRefused) → refused ≢ Memory → IsRowRefusal sheet.edition row fields refused → IsGivenByRecords edition all (Err refused)
  refused_row refused other is =
      subst (λ (e : Edition). IsGivenByRecords e all (Err refused)) put.edition
      (row_refused all before rest fields whole readable sheet put.holds put.sizes refused other
      (subst (λ k. IsRowRefusal sheet.edition k fields refused) (sym put.count) is))

-- the sizes of records that fit a sheet are those of one
readable_size : (text : List ℕ) (rows : Rows) → AreRecords default_config StartRecord text rows → ¬ IsTooLarge rows → IsSheetSize (sizes_of rows)
readable_size text rows has fits =
    let few : 1048576 < length rows * longest rows → ⊥ = λ more. fits (inl more) in
    let thin : 16384 < longest rows → ⊥ = λ more. fits (inr more) in
    record {
      cells = omega (arith, few);
      narrow = omega (arith, thin);
      no_rows = λ none. no_columns rows none;
      no_cols = λ none. has_columns default_config StartRecord text rows has none;
    }
  where
    no_columns : (some : Rows) → length some ≡ 0 → longest some ≡ 0
    no_columns [] e = refl
    no_columns (fields ∷ rest) e = absurd (omega (arith, e))

module _ (text : List ℕ) (all : Rows) (has : AreRecords default_config StartRecord text all) (readable : AreReadable all)
    (old : SheetValue) (blank : old ≡ blank_sheet old.edition (sizes_of all)) where
  old_sizes : old.sizes ≡ sizes_of all
  old_sizes = ap (λ (s : SheetValue). s.sizes) blank

  -- before the first record
  pub put_none : ArePut [] 0 old old
  put_none = record {
    count = refl;
    holds = subst (HoldsRecords []) (sym blank) (holds_nothing old.edition (sizes_of all) (readable_size text all has readable.fits));
    edition = refl;
    sizes = refl;
    few = (let none : length old.labels ≡ 0 = ap (λ (s : SheetValue). length s.labels) blank in omega (arith, none));
  }

  -- a text isn't at its end before the last row
  pub not_ended : (rows : Rows) → AreRecords default_config StartRecord text rows → length rows < old.sizes.rows → ⊥
  not_ended rows is less =
      let same : rows ≡ all = one_rows default_config StartRecord text rows all is has in
      let less_all : length rows < length all = subst (λ (s : Sizes). length rows < s.rows) old_sizes less in
      let count : length rows ≡ length all = ap length same in
      omega (arith, less_all, count)

  -- as many records as there are rows are all records
  pub all_read : (rows : Rows) (state : State) (rest : List ℕ) → Reached default_config StartRecord text rows state rest
      → length rows ≡ old.sizes.rows → rows ≡ all
  all_read rows state rest reached at_end =
      let front = rows_in_front default_config StartRecord text rows all state rest reached has in
      let count : length rows ≡ length all = at_end ∙ ap (λ (s : Sizes). s.rows) old_sizes in
      let none : front.0 ≡ [] = no_rest rows front.0 (ap length (sym front.1) ∙ sym count) in
      sym (front.1 ∙ ap (λ more. rows ++ more) none ∙ append-nil rows)
    where
      no_rest : (rows rest : Rows) → length (rows ++ rest) ≡ length rows → rest ≡ []
      no_rest rows [] e = refl
      no_rest rows (fields ∷ rest) e = (let d = length-append rows (fields ∷ rest) in absurd (omega (arith, d, e)))

  -- so are those at whose end the text is
  pub whole_read : (rows : Rows) → AreRecords default_config StartRecord text rows → rows ≡ all
  whole_read rows is = one_rows default_config StartRecord text rows all is has

  -- once all records were put
  pub put_all : (rows : Rows) (row : ℕ) (new : SheetValue) → rows ≡ all → ArePut rows row old new → IsSheetOf old.edition all new
  put_all rows row new same put =
      let sizes : new.sizes ≡ sizes_of all = put.sizes ∙ old_sizes in
      record {
        readable = readable;
        kept = put.holds.kept;
        edition_is = put.edition;
        sizes = sizes;
        labels = subst (λ rows. AddsLabels (all_fields rows) [] new.labels) same put.holds.labels;
        cells = λ row col r c.
            subst (λ rows. IsContent old.edition new.labels (field_at rows row col) (content_of new (cell_there row col))) same
            (subst (λ (e : Edition). IsContent e new.labels (field_at rows row col) (content_of new (cell_there row col))) put.edition
            (put.holds.cells row col (subst (λ (s : Sizes). row < s.rows) (sym sizes) r) (subst (λ (s : Sizes). col < s.cols) (sym sizes) c)));
      }

  module _ (rows : Rows) (fields : List (List ℕ)) (state : State) (rest : List ℕ)
      (reached : Reached default_config StartRecord text (rows ++ fields ∷ []) state rest)
      (row : ℕ) (between : SheetValue) (put : ArePut rows row old between) where
    front : (behind : Rows) × (all ≡ (rows ++ fields ∷ []) ++ behind) × AreRecords default_config state rest behind
    front = rows_in_front default_config StartRecord text (rows ++ fields ∷ []) all state rest reached has

    blank_put : ArePut rows row (blank_sheet old.edition (sizes_of all)) between
    blank_put = subst (λ s. ArePut rows row s between) blank put

    -- the next record fits the sheet
    pub put_fits : IsRecordFor between row fields
    put_fits = fits_row all rows front.0 fields front.1 readable old.edition row between blank_put

    -- where it is refused, that is what the text gives
    pub put_refused : (refused : SheetRefused) → refused ≢ Memory → IsRowRefusal between.edition row fields refused
        → IsGivenByRecords old.edition all (Err refused)
    put_refused = refused_row all rows front.0 fields front.1 readable old.edition row between blank_put

-- one record more
pub put_more : (rows : Rows) (fields : List (List ℕ)) (row : ℕ) (old between new : SheetValue) → ArePut rows row old between
    → ((rows : Rows) → length rows ≡ row → HoldsRecords rows between → HoldsRecords (rows ++ fields ∷ []) new)
    → new.edition ≡ between.edition → new.sizes ≡ between.sizes
    → length new.labels ≤ (row + 1) * between.sizes.cols → ArePut (rows ++ fields ∷ []) (row + 1) old new
put_more rows fields row old between new put filled edition sizes few = record {
  count = length-append rows (fields ∷ []) ∙ ap (λ n. n + 1) put.count;
  holds = filled rows put.count put.holds;
  edition = edition ∙ put.edition;
  sizes = sizes ∙ put.sizes;
  few = subst (λ (s : Sizes). length new.labels ≤ (row + 1) * s.cols) put.sizes few;
}

-- the next record, once those in front of it were put into a sheet that was blank
module _ (edition : Edition) (all left : Rows) (fields : List (List ℕ)) (row : ℕ) (sheet : SheetValue)
    (has : HasPut edition all (fields ∷ left) row sheet) where
  whole : all ≡ (has.rows ++ fields ∷ []) ++ left
  whole = has.split ∙ sym (append_assoc has.rows (fields ∷ []) left)

  pub next_fits : IsRecordFor sheet row fields
  next_fits = fits_row all has.rows left fields whole has.readable edition row sheet has.put

  -- its row has a number
  pub next_row : 0 < length fields → row < 1048576
  next_row some =
      let fits = next_fits in
      let sizes = has.put.sizes in
      let within : row < length all = subst (λ (s : Sizes). row < s.rows) sizes fits.within in
      let narrow : length fields ≤ longest all = subst (λ (s : Sizes). length fields ≤ s.cols) sizes fits.narrow in
      let small : 1048576 < length all * longest all → ⊥ = λ more. has.readable.fits (inl more) in
      let few = few_rows (length all) (longest all) 1048576 (omega (arith, small)) (omega (arith, some, narrow)) in
      omega (arith, within, few)

  pub next_refused : (refused : SheetRefused) → refused ≢ Memory → IsRowRefusal sheet.edition row fields refused → IsGivenByRecords edition all (Err refused)
  next_refused = refused_row all has.rows left fields whole has.readable edition row sheet has.put

  pub next_put : (new : SheetValue) → ((rows : Rows) → length rows ≡ row → HoldsRecords rows sheet → HoldsRecords (rows ++ fields ∷ []) new)
      → new.edition ≡ sheet.edition → new.sizes ≡ sheet.sizes → length new.labels ≤ (row + 1) * sheet.sizes.cols → HasPut edition all left (row + 1) new
  next_put new filled same sizes few = record {
    readable = has.readable;
    rows = has.rows ++ fields ∷ [];
    split = whole;
    put = put_more has.rows fields row (blank_sheet edition (sizes_of all)) sheet new has.put filled same sizes few;
  }

-- the records of a text that are left, where its first line is cut off
module _ (edition : Edition) (all behind : Rows) (row : ℕ) (sheet : SheetValue) (left line rest : List ℕ) (is : line ≡ take (prefix_len goes_on left) left)
    (after : rest ≡ drop 1 (drop (prefix_len goes_on left) left)) (has : HasPut edition all (text_rows left ++ behind) row sheet) where
  cut : text_rows left ≡ rows_in line ++ text_rows rest
  cut =
      first_line [] left
      ∙ ap (λ l. rows_in l ++ text_rows (drop 1 (drop (prefix_len goes_on left) left))) (sym is)
      ∙ ap (λ l. rows_in line ++ text_rows l) (sym after)

  pub next_line : 0 < length line → HasPut edition all (line_fields [] line ∷ (text_rows rest ++ behind)) row sheet
  next_line some = subst (λ rs. HasPut edition all (rs ++ behind) row sheet) (cut ∙ ap (λ rs. rs ++ text_rows rest) (some_row line some)) has

  pub no_line : length line ≡ 0 → HasPut edition all (text_rows rest ++ behind) row sheet
  no_line none = subst (λ rs. HasPut edition all (rs ++ behind) row sheet) (cut ∙ ap (λ rs. rs ++ text_rows rest) (none_in line none)) has

pub none_left : (edition : Edition) (all behind : Rows) (row : ℕ) (sheet : SheetValue) (left : List ℕ) → length left ≡ 0
    → HasPut edition all (text_rows left ++ behind) row sheet → HasPut edition all behind row sheet
none_left edition all behind row sheet left none has = subst (λ rs. HasPut edition all (rs ++ behind) row sheet) (no_rows left none) has

-- nothing of a plain text was put yet
pub put_begins : (text part behind : List ℕ) (edition : Edition) (sizes : Sizes) (sheet : SheetValue) (known : AreSizesFor text sizes) → IsPlain text
    → text_rows text ≡ text_rows part ++ text_rows behind → sheet ≡ blank_sheet edition sizes
    → HasPut edition known.0 (text_rows part ++ text_rows behind) 0 sheet
put_begins text part behind edition sizes sheet known plain split blank =
    let old = blank_sheet edition (sizes_of known.0) in
    let same : old ≡ sheet = ap (blank_sheet edition) (sym known.3) ∙ sym blank in
    record {
      readable = known.2;
      rows = [];
      split = one_rows default_config StartRecord text known.0 (text_rows text) known.1 (plain_rows text plain) ∙ split;
      put = subst (λ s. ArePut [] 0 old s) same (put_none text known.0 known.1 known.2 old refl);
    }

-- a part of a text was put, and the next one is cut from what is behind it
module _ (edition : Edition) (all : Rows) (part behind : List ℕ) (row : ℕ) (sheet : SheetValue)
    (has : HasPut edition all (text_rows part ++ text_rows behind) row sheet) where
  one_edition : sheet.edition ≡ edition
  one_edition = has.put.edition

  has_part : HasPut sheet.edition all (text_rows part ++ text_rows behind) row sheet
  has_part = subst (λ e. HasPut e all (text_rows part ++ text_rows behind) row sheet) (sym one_edition) has

  pub part_put : (next rest : List ℕ) (done : SheetValue × ℕ) → PutsPart part row sheet done → text_rows behind ≡ text_rows next ++ text_rows rest
      → HasPut edition all (text_rows next ++ text_rows rest) done.1 done.0
  part_put next rest done puts split =
      subst (λ e. HasPut e all (text_rows next ++ text_rows rest) done.1 done.0) one_edition
      (subst (λ rs. HasPut sheet.edition all rs done.1 done.0) split (puts all (text_rows behind) has_part))

  pub part_refused : (refused : SheetRefused) → IsPartRefusal part row sheet refused → refused ≢ Memory → IsGivenByRecords edition all (Err refused)
  part_refused refused is other =
      subst (λ (e : Edition). IsGivenByRecords e all (Err refused)) one_edition (is all (text_rows behind) has_part other)

  -- at its end all of it was
  pub put_ends : (text : List ℕ) → AreRecords default_config StartRecord text all → length part ≡ 0 → length behind ≡ 0 → IsSheetOf edition all sheet
  put_ends text records first second =
      put_all text all records has.readable (blank_sheet edition (sizes_of all)) refl has.rows row sheet
      (sym (has.split ∙ ap₂ (λ a b. has.rows ++ (a ++ b)) (no_rows part first) (no_rows behind second) ∙ append-nil has.rows)) has.put
