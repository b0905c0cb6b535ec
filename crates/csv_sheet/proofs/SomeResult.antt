-- No text is without a result: its records exist, and where none of the causes holds, so does the sheet.
use Rattle.std.proofs.Common.{◌≡◌, ◌≢◌, ℕ, zero, suc, ◌+◌, ◌-◌, ◌*◌, ◌<◌, ◌≤◌, Bool, true, false, ◌||◌, List, [], ◌∷◌}
use Rattle.std.proofs.Common.{◌++◌, length, get_or, take, drop, slice_get, Option, Some, None, Result, Ok, Err, inl}
use Rattle.std.proofs.Common.{inr, ◌⊎◌, refl, sym, ◌∙◌, ap, subst, arith, if◌then◌else◌}
use Rattle.std.specs.List.{list_any}
use Rattle.std.specs.Str.{bytes_eq}
use Rattle.std.proofs.Math.Seq.{take-suc, take-length}
use Rattle.std.proofs.lemmas.Bool.{cases_lt}
use Rattle.std.proofs.lemmas.List.{get_or_default, length-take-le, take-append-drop}
use Rattle.std.proofs.lemmas.Nat.{rows as row_places}
use Rattle.std.proofs.lemmas.Slice.Eq.{bytes_eq-Decides}
use Rattle.csv.specs.Machine.{next_record, Read, step, ends_at_end, is_end, fields_after, field_after}
use Rattle.csv.specs.Reading.{AreRecords, Reached, default_config}
use Rattle.csv.specs.Records.{AllText}
use Rattle.csv.specs.declared.parser.Action.{Action}
use Rattle.csv.specs.declared.parser.Action.TheVariants.{Skip, Copy, EndField, EndRecord}
use Rattle.csv.specs.declared.parser.Config.{Config}
use Rattle.csv.specs.declared.parser.State.{State}
use Rattle.csv.specs.declared.parser.State.TheVariants.{StartRecord}
use Rattle.sheet_refs.specs.Cells.{Position}
use Rattle.sheet_refs.specs.declared.sizes.Sizes.{Sizes}
use Rattle.value_core.specs.declared.value.ErrorKind.TheVariants.{Name}
use Rattle.value_core.specs.declared.value.Value.TheVariants.{Empty, Number, Truth, Error, Label}
use Rattle.formula_syntax.specs.declared.edition.Edition.{Edition}
use Rattle.formula_syntax.specs.Spelling.{SpellsIn, IsTooDeep, HasTooManyRefs}
use Rattle.formula_syntax.specs.Tree.{Tree, references_of}
use Rattle.sheet_model.specs.Fields.{IsContent, IsTableAfter, IsLabelField, BeginsFormula, IsDeepFormula}
use Rattle.sheet_model.specs.Fields.IsTableAfter.{label, other}
use Rattle.sheet_model.specs.Labels.{with_label}
use Rattle.sheet_model.specs.Sheets.{SheetValue, ContentValue, content_of, Constant, Computed, IsSheetSize, blank_sheet, with_content, with_labels}
use Rattle.sheet_model.proofs.ListLemmas.{slice_get-push}
use Rattle.csv_sheet.specs.Filling.{HoldsRecords, IsPartFilled, IsRecordFor}
use Rattle.csv_sheet.specs.Records.{Rows, fields_at, field_at, cell_there, longest, sizes_of, without_marks}
use Rattle.csv_sheet.specs.Results.{AreText, IsFirstNotText, IsTooLarge, IsPlaceBefore, NoField, IsFirstField, IsLong}
use Rattle.csv_sheet.specs.Results.{IsRefusedFormula, AreReadable, IsSheetOf, IsFirstRefused, IsGivenByRecords}
use Rattle.csv_sheet.specs.Results.{IsRecordsResult, IsHeadedResult, IsSheetResult}
use Rattle.csv_sheet.specs.Headings.{HeadedText, heading_of}
use Rattle.csv_sheet.specs.declared.refused.SheetRefused.{SheetRefused}
use Rattle.csv_sheet.specs.declared.refused.SheetRefused.TheVariants.{NotUtf8, TooManyCells, FieldTooLong, FormulaTooDeep, TooManyRefs, UnknownEdition}
use Rattle.csv_sheet.proofs.FillLemmas.{holds_nothing, part_none, part_step}
use Rattle.csv_sheet.proofs.RecordLemmas.{told_some, has_columns}
use Rattle.csv_sheet.proofs.WayLemmas.{record_fits}

-- ---- the records of a text

-- what is left behind a record: less than before, or nothing, where no record begins
abbrev IsLess : Read → List ℕ → Type 0
IsLess p xs = (length p.2 < length xs) ⊎ ((p.1 ≡ StartRecord) × (p.2 ≡ []))

one_longer : (p : Read) (c : ℕ) (rest : List ℕ) → IsLess p rest → IsLess p (c ∷ rest)
one_longer p c rest (inl less) = inl (omega (arith, less))
one_longer p c rest (inr end) = inr end

next_less : (cfg : Config) (s : State) (fields : List (List ℕ)) (field xs : List ℕ) (p : Read) → next_record cfg s fields field xs ≡ Some p → IsLess p xs
unfolding next_record
next_less cfg s fields field [] p e = at_end (ends_at_end s) e
  where
    at_end : (b : Bool) → (if b then Some (fields ++ (field ∷ []), StartRecord, []) else None) ≡ Some p → IsLess p []
    at_end true e =
        let same = told_some (fields ++ (field ∷ []), StartRecord, []) p e in
        inr (ap (λ (q : Read). q.1) (sym same), ap (λ (q : Read). q.2) (sym same))
    at_end false e = cc e
next_less cfg s fields field (c ∷ rest) p e =
    go (step cfg s c).1 (step cfg s c).0
    (λ more. one_longer p c rest (next_less cfg (step cfg s c).0 (fields_after (step cfg s c).1 fields field)
    (field_after (step cfg s c).1 c field) rest p more)) e
  where
    go : (did : Action) (t : State) → (next_record cfg t (fields_after did fields field) (field_after did c field) rest ≡ Some p → IsLess p (c ∷ rest))
        → (if is_end did then Some (fields_after did fields field, t, rest) else next_record cfg t
        (fields_after did fields field) (field_after did c field) rest) ≡ Some p → IsLess p (c ∷ rest)
    go Skip t more e = more e
    go Copy t more e = more e
    go EndField t more e = more e
    go EndRecord t more e =
        let same : rest ≡ p.2 = ap (λ (q : Read). q.2) (told_some (fields ++ (field ∷ []), t, rest) p e) in
        let size : length rest ≡ length p.2 = ap length same in
        inl (omega (arith, size))

-- no record begins at the end of a text
none_behind : (cfg : Config) → next_record cfg StartRecord [] [] [] ≡ None
unfolding next_record
none_behind cfg = refl

-- a text has records
rows_within : (cfg : Config) (n : ℕ) (s : State) (xs : List ℕ) → length xs < n → (rows : Rows) × AreRecords cfg s xs rows
unfolding Reached
rows_within cfg zero s xs less = absurd (omega (arith, less))
rows_within cfg (suc n) s xs less = read (next_record cfg s [] [] xs) refl (λ t ys fewer. rows_within cfg n t ys fewer)
  where
    read : (o : Option Read) → next_record cfg s [] [] xs ≡ o → ((t : State) (ys : List ℕ) → length ys < n
        → (rows : Rows) × AreRecords cfg t ys rows) → (rows : Rows) × AreRecords cfg s xs rows
    read None none more = ([], (s, xs, (refl, refl), none))
    read (Some p) is more = left (next_less cfg s [] [] xs p is)
      where
        left : IsLess p xs → (rows : Rows) × AreRecords cfg s xs rows
        left (inl fewer) =
            let rest = more p.1 p.2 (omega (arith, less, fewer)) in
            (p.0 ∷ rest.0, (rest.1.0, rest.1.1, (p, is, refl, rest.1.2), rest.1.3))
        left (inr end) = (p.0 ∷ [], (StartRecord, [], (p, is, refl, (end.0, end.1)), none_behind cfg))

-- ---- where no first field has it, no field has it

module _ (P : List ℕ → Type 0) (rows : Rows) (no_first : (cell : Position) → ¬ IsFirstField P rows cell) where
  abbrev Above : ℕ → Type 0
  Above row = (r c : ℕ) → r < row → c < length (fields_at rows r) → ¬ P (field_at rows r c)

  first_at : (row c : ℕ) → Above row → ((k : ℕ) → k < c → k < length (fields_at rows row) → ¬ P (field_at rows row k))
      → c < length (fields_at rows row) → P (field_at rows row c) → ⊥
  first_at row c above left within is =
      no_first (cell_there row c) (record { row = row; col = c; cell_is = refl; there = within; is = is; before = before })
    where
      before : (r k : ℕ) → IsPlaceBefore r k row c → k < length (fields_at rows r) → ¬ P (field_at rows r k)
      before r k (inl up) there has = above r k up there has
      before r k (inr (same, less)) there has =
          left k less (subst (λ j. k < length (fields_at rows j)) same there) (subst (λ j. P (field_at rows j k)) same has)

  in_row : (row : ℕ) → Above row → (end c : ℕ) → c < end → c < length (fields_at rows row) → P (field_at rows row c) → ⊥
  in_row row above zero c less within is = absurd (omega (arith, less))
  in_row row above (suc end) c less within is =
      first_at row c above (λ k lower there has. in_row row above end k (omega (arith, less, lower)) there has) within is

  in_rows : (row : ℕ) → Above row
  in_rows zero r c up within is = absurd (omega (arith, up))
  in_rows (suc row) r c up within is =
      in_row r (λ r2 c2 higher there has. in_rows row r2 c2 (omega (arith, up, higher)) there has) (suc c) c (omega arith) within is

  no_field : NoField P rows
  no_field row col within is = in_rows (suc row) row col (omega arith) within is

-- ---- where no first record isn't text, all are

module _ (rows : Rows) (no_first : (number : ℕ) → ¬ IsFirstNotText rows number) where
  abbrev TextBefore : ℕ → Type 0
  TextBefore n = (k : ℕ) → k < n → AllText (fields_at rows k)

  one_more_text : (n : ℕ) → TextBefore n → AllText (fields_at rows n) → TextBefore (suc n)
  one_more_text n before text k less = elim (cases_lt k n) [
    | inl below ↦ before k below
    | inr not_below ↦ let same : k ≡ n = omega (arith, less, not_below) in subst (λ j. AllText (fields_at rows j)) (sym same) text
  ]

  text_before : (n : ℕ) → n ≤ length rows → (TextBefore n → ⊥) → ⊥
  text_before zero within denied = denied (λ k less. absurd (omega (arith, less)))
  text_before (suc n) within denied = text_before n (omega (arith, within)) (λ before.
      no_first (n + 1) (record {
        row = n;
        number_is = refl;
        there = omega (arith, within);
        not_text = λ text. denied (one_more_text n before text);
        before = before;
      }))

  all_are_text : (AreText rows → ⊥) → ⊥
  all_are_text denied = text_before (length rows) (omega arith) (λ before.
      denied (λ k d within. subst AllText (get_or_default rows k [] d within) (before k within)))

-- ---- a field that isn't refused has a content

label_place : (labels : List (List ℕ)) (text : List ℕ) → list_any (bytes_eq text) labels ≡ true → (place : ℕ) × (slice_get labels place ≡ Some text)
label_place [] text e = absurd (cc)
label_place (l ∷ ls) text e = by (bytes_eq text l) refl e (λ later. label_place ls text later)
  where
    by : (b : Bool) → bytes_eq text l ≡ b → (b || list_any (bytes_eq text) ls) ≡ true
        → (list_any (bytes_eq text) ls ≡ true → (place : ℕ) × (slice_get ls place ≡ Some text))
        → (place : ℕ) × (slice_get (l ∷ ls) place ≡ Some text)
    by true is e more = (zero, ap Some (sym ((bytes_eq-Decides text l).0 is)))
    by false is e more = let rest = more e in (suc rest.0, rest.1)

-- a text has a place in a table that it was added to
label_there : (labels : List (List ℕ)) (text : List ℕ) → (place : ℕ) × (slice_get (with_label labels text) place ≡ Some text)
label_there labels text = by (list_any (bytes_eq text) labels) refl
  where
    by : (b : Bool) → list_any (bytes_eq text) labels ≡ b → (place : ℕ) × (slice_get (if b then labels else labels ++ text ∷ []) place ≡ Some text)
    by true is = label_place labels text is
    by false is = (length labels, slice_get-push labels text)

module _ (edition : Edition) (labels : List (List ℕ)) (field : List ℕ) (fine : ¬ IsRefusedFormula edition field)
    (denied : (new : List (List ℕ)) (content : ContentValue) → IsTableAfter field labels new → IsContent edition new field content → ⊥) where
  -- a content that is no label would do
  not_other : (content : ContentValue) → IsContent edition labels field content → (IsLabelField field → ⊥) → ⊥
  not_other content is not_label = denied labels content (other field labels labels not_label refl) is

  not_empty : field ≢ []
  not_empty empty = not_other (Constant Empty) empty (λ as_label. as_label.some empty)

  not_formula : ¬ BeginsFormula field
  not_formula begins =
      not_other (Constant (Error Name)) (inr (refl, record { begins = begins; none = (shallow, no_tree) })) (λ as_label. as_label.no_formula begins)
    where
      shallow : ¬ IsTooDeep field
      shallow deep = fine (inl (record { begins = begins; deep = deep }))

      no_tree : (tree : Tree) → ¬ SpellsIn edition field tree
      no_tree tree spelt = elim (cases_lt 255 (length (references_of tree))) [
        | inl many ↦ fine (inr (shallow, tree, spelt, many))
        | inr few ↦ not_other (Computed tree) (record {
          shallow = shallow;
          spelt = spelt.spelt;
          within = spelt.within;
          few = few;
        }) (λ as_label. as_label.no_formula begins)
      ]

  is_label : IsLabelField field
  is_label = record {
    some = not_empty;
    no_number = λ number is. not_other (Constant (Number number)) is (λ as_label. as_label.no_number number is);
    no_truth = λ truth is. not_other (Constant (Truth truth)) is (λ as_label. as_label.no_truth truth is);
    no_error = λ kind is. not_other (Constant (Error kind)) (inl is) (λ as_label. as_label.no_error kind is);
    no_formula = not_formula;
  }

  no_content : ⊥
  no_content =
      let at = label_there labels field in
      denied (with_label labels field) (Constant (Label at.0)) (label field labels (with_label labels field) is_label refl) (is_label, at.1)

-- ---- records none of which is refused have a sheet

next_part : (row : ℕ) (fields : List (List ℕ)) (old : SheetValue) → IsRecordFor old row fields
    → ((c : ℕ) → c < length fields → ¬ IsRefusedFormula old.edition (get_or fields c []))
    → (col : ℕ) → col ≤ length fields → ((new : SheetValue) → IsPartFilled row fields col old new → ⊥) → ⊥
next_part row fields old record_for fine zero within denied = denied old (part_none row fields old record_for.few)
next_part row fields old record_for fine (suc col) within denied = next_part row fields old record_for fine col (omega (arith, within)) (λ between part.
    no_content between.edition between.labels (get_or fields col [])
    (subst (λ (e : Edition). ¬ IsRefusedFormula e (get_or fields col [])) (sym part.edition)
    (fine col (omega (arith, within)))) (λ labels content table writes.
    let new = with_content (with_labels between labels) (cell_there row col) content in
    let more : IsPartFilled row fields (col + 1) old new = part_step row fields col old between new (cell_there row col)
    (get_or fields col []) record_for (omega (arith, within)) part refl refl
    (record { short = record_for.short col (omega (arith, within)); table = table; content = content; writes = writes; placed = refl }) in
    let same : col + 1 ≡ suc col = omega arith in
    denied new (subst (λ k. IsPartFilled row fields k old new) same more)))

-- one row more has room for its labels
one_row : (n cols width most : ℕ) → most ≤ n * cols + width → width ≤ cols → most ≤ suc n * cols
one_row n cols width most few narrow = grind (arith, row_places)

module _ (edition : Edition) (all : Rows) (readable : AreReadable all) (clean : NoField (IsRefusedFormula edition) all)
    (size : IsSheetSize (sizes_of all)) where
  -- a sheet that holds the first records
  record HoldsFirst (n : ℕ) (sheet : SheetValue) : Type 0 where
    holds : HoldsRecords (take n all) sheet
    edition_is : sheet.edition ≡ edition
    sizes : sheet.sizes ≡ sizes_of all
    few : length sheet.labels ≤ n * sheet.sizes.cols

  parts_of : (n : ℕ) → n < length all → all ≡ (take n all ++ get_or all n [] ∷ []) ++ drop (suc n) all
  parts_of n within = sym (take-append-drop (suc n) all) ∙ ap (λ front. front ++ drop (suc n) all) (take-suc all n [] within)

  next_sheet : (n : ℕ) → n ≤ length all → ((sheet : SheetValue) → HoldsFirst n sheet → ⊥) → ⊥
  next_sheet zero within denied =
      denied (blank_sheet edition (sizes_of all)) (record {
        holds = holds_nothing edition (sizes_of all) size;
        edition_is = refl;
        sizes = refl;
        few = omega arith;
      })
  next_sheet (suc n) within denied = next_sheet n (omega (arith, within)) with_row
    where
      inside : n < length all
      inside = omega (arith, within)

      count : length (take n all) ≡ n
      count = length-take-le n all (omega (arith, within))

      with_row : (sheet : SheetValue) → HoldsFirst n sheet → ⊥
      with_row sheet first =
          let few : length sheet.labels ≤ length (take n all) * sheet.sizes.cols =
          subst (λ k. length sheet.labels ≤ k * sheet.sizes.cols) (sym count) first.few in
          let fits = record_fits all (take n all) (drop (suc n) all) (get_or all n []) (parts_of n inside) readable sheet first.holds first.sizes few in
          next_part n (get_or all n []) sheet (subst (λ k. IsRecordFor sheet k (get_or all n [])) count fits)
          (λ c within refused. clean n c within
          (subst (λ (e : Edition). IsRefusedFormula e (get_or (get_or all n []) c [])) first.edition_is refused))
          (length (get_or all n [])) (omega arith) (λ new part. denied new (record {
            holds =
                subst (λ rows. HoldsRecords rows new) (ap (λ fs. take n all ++ fs ∷ []) (take-length (get_or all n []))
                ∙ sym (take-suc all n [] inside)) (part.filled (take n all) count first.holds);
            edition_is = part.edition ∙ first.edition_is;
            sizes = part.sizes ∙ first.sizes;
            few =
                subst (λ (s : Sizes). length new.labels ≤ suc n * s.cols) (sym part.sizes)
                (one_row n sheet.sizes.cols (length (get_or all n [])) (length new.labels) part.few fits.narrow);
          }))

  -- there is the sheet
  no_sheet : ((sheet : SheetValue) → IsSheetOf edition all sheet → ⊥) → ⊥
  no_sheet denied = next_sheet (length all) (omega arith) (λ sheet first.
      let holds : HoldsRecords all sheet = subst (λ rows. HoldsRecords rows sheet) (take-length all) first.holds in
      denied sheet (record {
        readable = readable;
        kept = holds.kept;
        edition_is = first.edition_is;
        sizes = first.sizes;
        labels = holds.labels;
        cells = λ row col r c.
            subst (λ (e : Edition). IsContent e sheet.labels (field_at all row col) (content_of sheet (cell_there row col))) first.edition_is
            (holds.cells row col (subst (λ (s : Sizes). row < s.rows) (sym first.sizes) r) (subst (λ (s : Sizes). col < s.cols) (sym first.sizes) c));
      }))

-- ---- each text gives something

-- records that fit have the sizes of a sheet
size_of : (records : List ℕ) (rows : Rows) → AreRecords default_config StartRecord records rows → ¬ IsTooLarge rows → IsSheetSize (sizes_of rows)
size_of records rows has fits = record {
  cells = omega (arith, (λ (more : 1048576 < length rows * longest rows). fits (inl more)));
  narrow = omega (arith, (λ (more : 16384 < longest rows). fits (inr more)));
  no_rows = no_columns rows;
  no_cols = λ none. has_columns default_config StartRecord records rows has none;
}
  where
    no_columns : (some : Rows) → length some ≡ 0 → longest some ≡ 0
    no_columns [] e = refl
    no_columns (fields ∷ rest) e = absurd (omega (arith, e))

module _ (edition : Edition) (rows : Rows) (records : List ℕ) (has : AreRecords default_config StartRecord records rows)
    (denied : (result : Result SheetValue SheetRefused) → ¬ IsGivenByRecords edition rows result) where
  with_text : AreText rows → ⊥
  with_text text = no_sheet edition rows readable clean (size_of records rows has fits) (λ sheet is. denied (Ok sheet) is)
    where
      fits : ¬ IsTooLarge rows
      fits large = denied (Err (TooManyCells (length rows) (longest rows))) (text, large, refl, refl)

      readable : AreReadable rows
      readable = record { text = text; fits = fits; short = no_field IsLong rows (λ cell first. denied (Err (FieldTooLong cell)) (text, fits, first)) }

      why_at : (Why : List ℕ → Type 0) (cell : Position) (first : IsFirstField (IsRefusedFormula edition) rows cell)
          → Why (field_at rows first.row first.col) → IsFirstRefused edition Why rows cell
      why_at Why cell first why =
          let row_is : cell.row - 1 ≡ first.row = ap (λ (p : Position). p.row - 1) first.cell_is ∙ (omega arith) in
          let col_is : cell.col - 1 ≡ first.col = ap (λ (p : Position). p.col - 1) first.cell_is ∙ (omega arith) in
          record {
            readable = readable;
            first = first;
            why = subst (λ r. Why (field_at rows r (cell.col - 1))) (sym row_is)
                (subst (λ c. Why (field_at rows first.row c)) (sym col_is) why);
          }

      clean : NoField (IsRefusedFormula edition) rows
      clean = no_field (IsRefusedFormula edition) rows (λ cell first. elim first.is [
        | inl deep ↦ denied (Err (FormulaTooDeep cell)) (why_at IsDeepFormula cell first deep)
        | inr many ↦ denied (Err (TooManyRefs cell)) (why_at (HasTooManyRefs edition) cell first many)
      ])

  no_answer : ⊥
  no_answer = all_are_text rows (λ number first. denied (Err (NotUtf8 number)) first) with_text

some_records : (edition : Edition) (records : List ℕ) → ((result : Result SheetValue SheetRefused) → ¬ IsRecordsResult edition records result) → ⊥
some_records edition records denied =
    let found = rows_within default_config (length records + 1) StartRecord records (omega arith) in
    no_answer edition found.0 records found.1 (λ result is. denied result (record { rows = found.0; has = found.1; answer = is }))

some_headed : (heading : Option HeadedText) → ((result : Result SheetValue SheetRefused) → ¬ IsHeadedResult heading result) → ⊥
some_headed None denied = denied (Err UnknownEdition) refl
some_headed (Some heading) denied = some_records heading.edition heading.records denied

pub some_result : (text : List ℕ) → ((result : Result SheetValue SheetRefused) → ¬ IsSheetResult text result) → ⊥
some_result text denied = some_headed (heading_of (without_marks text)) denied
