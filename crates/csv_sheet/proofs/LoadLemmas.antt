-- From the extent of a text's records to what the text gives.
use Rattle.std.proofs.Common.{◌≡◌, ◌↔◌, ℕ, ◌+◌, ◌*◌, ◌<◌, ◌≤◌, List, [], length, inl, ◌∷◌, inr, ◌⊎◌, refl, sym, ◌∙◌, ap}
use Rattle.std.proofs.Common.{subst, arith, Result, Err, Option, None, Some, Bool, true, false, true≢false, IsTrue}
use Rattle.std.proofs.Common.{IfSome, drop, ◌==◌, ◌&&◌, if◌then◌else◌}
use Rattle.std.specs.Prelude.{◌≢◌, Ok, IfErr, IfOk, codes, nat_eq}
use Rattle.std.specs.List.{starts_with}
use Rattle.std.proofs.lemmas.List.{length-drop}
use Rattle.csv.specs.Reading.{AreRecords, default_config}
use Rattle.csv.specs.declared.parser.State.TheVariants.{StartRecord}
use Rattle.sheet_refs.specs.Cells.{Position, IsNamed}
use Rattle.formula_syntax.specs.declared.edition.Edition.{Edition}
use Rattle.formula_syntax.specs.declared.edition.Edition.TheVariants.{One, Two}
use Rattle.sheet_model.specs.Sheets.{SheetValue, IsSheetSize}
use Rattle.csv_sheet.specs.Filling.{IsFillRefusal, IsFilledWith}
use Rattle.csv_sheet.specs.Reading.{Measures}
use Rattle.csv_sheet.specs.Records.{Rows, cell_there, longest, without_marks}
use Rattle.csv_sheet.specs.Results.{AreText, IsTooLarge, IsFirstField, IsLong, NoField, IsGivenByRecords, IsRecordsResult, IsHeadedResult, IsSheetResult}
use Rattle.csv_sheet.specs.Headings.{HeadedText, behind_end, behind_first, if_named, unnamed, heading_of}
use Rattle.csv_sheet.specs.declared.extent.Extent.{Extent}
use Rattle.csv_sheet.specs.declared.refused.SheetRefused.{SheetRefused}
use Rattle.csv_sheet.specs.declared.refused.SheetRefused.TheVariants.{Memory, UnknownEdition}
use Rattle.csv_sheet.proofs.FieldLemmas.{few_rows}
use Rattle.csv_sheet.proofs.MarkLemmas.{length-without_marks, without_marks_twice}
use Rattle.csv_sheet.proofs.RecordLemmas.{has_columns}
use Rattle.csv_sheet.proofs.ResultLemmas.{one_result, field_inside}

pub result_from : (edition : Edition) (records : List ℕ) (rows : Rows) (result : Result SheetValue SheetRefused)
    → AreRecords default_config StartRecord records rows → IsGivenByRecords edition rows result
    → IsRecordsResult edition records result
result_from edition records rows result has answer = record { rows = rows; has = has; answer = answer }

-- so is what filling gives
pub filled_from : (edition : Edition) (records : List ℕ) (result : Result SheetValue SheetRefused) → IfOk result (IsFilledWith records edition)
    → IfErr result (IsFillRefusal records edition) → result ≢ Err Memory → IsRecordsResult edition records result
filled_from edition records (Ok sheet) filled why other = result_from edition records filled.0 (Ok sheet) filled.1 filled.2
filled_from edition records (Err refused) filled why other =
    let given = why (λ same. other (ap (λ e. Err e) same)) in
    result_from edition records given.0 (Err refused) given.1 given.2

-- what the records behind a heading give, a text gives
pub headed_from : (text : List ℕ) (heading : HeadedText) (result : Result SheetValue SheetRefused)
    → heading_of (without_marks text) ≡ Some heading → IsRecordsResult heading.edition heading.records result
    → IsSheetResult text result
headed_from text heading result is answer = subst (λ (o : Option HeadedText). IsHeadedResult o result) (sym is) answer

pub unheaded_from : (text : List ℕ) (result : Result SheetValue SheetRefused) → heading_of (without_marks text) ≡ None
    → result ≡ Err UnknownEdition → IsSheetResult text result
unheaded_from text result is answer = subst (λ (o : Option HeadedText). IsHeadedResult o result) (sym is) answer

-- a result that a text gives is the only one
pub exact_from : (text : List ℕ) (result : Result SheetValue SheetRefused) → IsSheetResult text result
    → (answer : Result SheetValue SheetRefused) → (result ≡ answer) ↔ IsSheetResult text answer
exact_from text result is answer = (λ same. subst (IsSheetResult text) same is, λ other. one_result text result answer is other)

-- the records behind a heading have no mark at their front, and are no longer than the text
abbrev IsPlainIn : ℕ → Option HeadedText → Type 0
IsPlainIn most None = Unit {0}
IsPlainIn most (Some heading) = (without_marks heading.records ≡ heading.records) × (length heading.records ≤ most)

plain_named : (most : ℕ) (edition : Edition) (rest : Option (List ℕ)) (other : Option HeadedText)
    → IfSome rest (λ r. length r ≤ most) → IsPlainIn most other → IsPlainIn most (if_named edition rest other)
plain_named most edition None other short plain = plain
plain_named most edition (Some rest) other short plain = (without_marks_twice rest, (let less = length-without_marks rest in omega (arith, less, short)))

end_short : (text : List ℕ) → IfSome (behind_end text) (λ r. length r ≤ length text)
end_short [] = omega arith
end_short (a ∷ []) = by (a == 10)
  where
    by : (t : Bool) → IfSome (if t then Some [] else None) (λ (r : List ℕ). length r ≤ length (a ∷ []))
    by true = omega arith
    by false = tt
end_short (a ∷ b ∷ rest) = by (a == 10) (a == 13 && b == 10)
  where
    by : (t u : Bool) → IfSome (if t then Some (b ∷ rest) else (if u then Some rest else None)) (λ (r : List ℕ). length r ≤ length (a ∷ b ∷ rest))
    by true u = omega arith
    by false true = omega arith
    by false false = tt

shorter : (most less : ℕ) (o : Option (List ℕ)) → less ≤ most → IfSome o (λ r. length r ≤ less) → IfSome o (λ r. length r ≤ most)
shorter most less None fewer h = tt
shorter most less (Some r) fewer h = omega (arith, fewer, h)

first_short : (line text : List ℕ) → IfSome (behind_first line text) (λ r. length r ≤ length text)
first_short line text = by (starts_with nat_eq text line)
  where
    by : (t : Bool) → IfSome (if t then behind_end (drop (length line) text) else None) (λ (r : List ℕ). length r ≤ length text)
    by true = shorter (length text) (length (drop (length line) text)) (behind_end (drop (length line) text))
        (omega (arith, length-drop (length line) text)) (end_short (drop (length line) text))
    by false = tt

heading_plain : (text : List ℕ) → without_marks text ≡ text → IsPlainIn (length text) (heading_of text)
heading_plain text same =
    plain_named (length text) One (behind_first (codes "#edition 1") text) _ (first_short (codes "#edition 1") text)
    (plain_named (length text) Two (behind_first (codes "#edition 2") text) (unnamed text)
    (first_short (codes "#edition 2") text) (by (starts_with nat_eq text (codes "#edition "))))
  where
    by : (t : Bool) → IsPlainIn (length text) (if t then None else Some (record { edition = One; records = text }))
    by true = tt
    by false = (same, omega arith)

pub records_plain : (text : List ℕ) (heading : HeadedText) → heading_of (without_marks text) ≡ Some heading
    → (without_marks heading.records ≡ heading.records) × (length heading.records ≤ length text)
records_plain text heading is =
    let plain : IsPlainIn (length (without_marks text)) (Some heading) =
    subst (IsPlainIn (length (without_marks text))) is
    (heading_plain (without_marks text) (without_marks_twice text)) in
    let less = length-without_marks text in
    (plain.0, omega (arith, plain.1, less))

module _ (rows : Rows) (extent : Extent) (is : Measures rows extent) where
  pub large : (1048576 < extent.rows * extent.cols) ⊎ (16384 < extent.cols) → IsTooLarge rows
  large (inl cells) = inl (subst (λ n. 1048576 < n * longest rows) is.count (subst (λ n. 1048576 < extent.rows * n) is.cols cells))
  large (inr cols) = inr (subst (λ n. 16384 < n) is.cols cols)

  pub fits : ¬ ((1048576 < extent.rows * extent.cols) ⊎ (16384 < extent.cols)) → (length rows * longest rows ≤ 1048576) × (longest rows ≤ 16384)
  fits not =
      let few : 1048576 < length rows * longest rows
      → ⊥ =
      λ more. not
      (inl (subst (λ n. 1048576 < n * extent.cols) (sym is.count) (subst (λ n. 1048576 < length rows * n)
      (sym is.cols) more))) in
      let thin : 16384 < longest rows → ⊥ = λ more. not (inr (subst (λ n. 16384 < n) (sym is.cols) more)) in
      (omega (arith, few), omega (arith, thin))

  pub not_too_large : ¬ ((1048576 < extent.rows * extent.cols) ⊎ (16384 < extent.cols)) → ¬ IsTooLarge rows
  not_too_large not (inl cells) = let small = fits not in let all = small.0 in omega (arith, all, cells)
  not_too_large not (inr cols) = let small = fits not in let all = small.1 in omega (arith, all, cols)

  pub not_large : (test : Bool) → (((1048576 < extent.rows * extent.cols) ⊎ (16384 < extent.cols)) → IsTrue test)
      → test ≡ false → ¬ ((1048576 < extent.rows * extent.cols) ⊎ (16384 < extent.cols))
  not_large test told denied large_one = true≢false (sym (told large_one) ∙ denied)

  pub all_text : extent.not_text ≡ None → AreText rows
  all_text none = rw none at is.text

  pub none_long : extent.long ≡ None → NoField IsLong rows
  none_long none = rw none at is.short

  pub long_first : (row col : ℕ) → extent.long ≡ Some (row, col) → IsFirstField IsLong rows (cell_there row col)
  long_first row col found = rw found at is.short

  -- the sizes are those of a sheet
  pub sheet_size : (records : List ℕ) → AreRecords default_config StartRecord records rows → ¬ ((1048576 < extent.rows * extent.cols) ⊎ (16384 < extent.cols))
      → IsSheetSize (record { rows = extent.rows; cols = extent.cols })
  sheet_size records has not =
      let small = fits not in
      let cells : extent.rows * extent.cols ≤ 1048576 = subst (λ n. n * extent.cols ≤ 1048576) (sym is.count)
      (subst (λ n. length rows * n ≤ 1048576) (sym is.cols) small.0) in
      let narrow : extent.cols ≤ 16384 = subst (λ n. n ≤ 16384) (sym is.cols) small.1 in
      record {
        cells = cells;
        narrow = narrow;
        no_rows = λ none. is.cols ∙ no_columns rows (sym is.count ∙ none);
        no_cols = λ none. is.count ∙ has_columns default_config StartRecord records rows has (sym is.cols ∙ none);
      }
    where
      no_columns : (some : Rows) → length some ≡ 0 → longest some ≡ 0
      no_columns [] e = refl
      no_columns (fields ∷ rest) e = absurd (omega (arith, e))

  -- the first field that is too long stands in a cell that has a name
  pub long_place : (row col : ℕ) → IsFirstField IsLong rows (cell_there row col) → (row < length rows) × (col < longest rows)
  long_place row col first =
      let row_is : row + 1 ≡ first.row + 1 = ap (λ (p : Position). p.row) first.cell_is in
      let col_is : col + 1 ≡ first.col + 1 = ap (λ (p : Position). p.col) first.cell_is in
      let inside = field_inside rows first.row first.col first.there in
      let r = inside.0 in
      let c = inside.1 in
      (omega (arith, row_is, r), omega (arith, col_is, c))

  pub long_named : (row col : ℕ) → IsFirstField IsLong rows (cell_there row col)
      → ¬ ((1048576 < extent.rows * extent.cols) ⊎ (16384 < extent.cols)) → IsNamed (row + 1) (col + 1)
  long_named row col first not =
      let inside = long_place row col first in
      let r = inside.0 in
      let c = inside.1 in
      let small = fits not in
      let narrow = small.1 in
      let few = few_rows (length rows) (longest rows) 1048576 small.0 (omega (arith, c)) in
      record { row_from = omega arith; row_to = omega (arith, r, few); col_from = omega arith; col_to = omega (arith, c, narrow) }
