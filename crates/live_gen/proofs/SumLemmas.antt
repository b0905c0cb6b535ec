-- Adding up the numbers among the values of a sheet.
use Rattle.std.proofs.Common.{◌≡◌, ℕ, suc, ◌+◌, ◌-◌, ◌*◌, ◌/◌, ◌%◌, ◌<◌, List, [], ◌∷◌}
use Rattle.std.proofs.Common.{◌++◌, Some, length, take, get_or, slice_get, IsTrue, sym, ◌∙◌, ap, subst, arith}
use Rattle.std.specs.Prelude.{ℤ, pos, ◌+ℤ◌, option_map}
use Rattle.std.proofs.Math.IntN.{+ℤ_assoc, +ℤ_comm}
use Rattle.std.proofs.Math.Seq.{take-length, take-suc}
use Rattle.std.proofs.lemmas.List.{length-map}
use Rattle.std.proofs.lemmas.Nat.{div-add-mod'}
use Rattle.std.proofs.lemmas.Option.{get_or_from_slice_get, slice_get-map}
use Rattle.sheet_refs.specs.Cells.{Position, Corners, cells_of, height, width}
use Rattle.sheet_refs.specs.Sizes.{is_inside, cell_count, cell_of_place, place_of}
use Rattle.sheet_refs.proofs.Grid.{rows_length}
use Rattle.sheet_refs.proofs.Places.{inside_from, range_place}
use Rattle.value_core.specs.declared.value.Value.{Value}
use Rattle.value_core.specs.declared.value.Value.TheVariants.{Empty}
use Rattle.value_core.specs.Values.{IsValue, code_of}
use Rattle.sheet_model.specs.Sheets.{SheetValue}
use Rattle.sheet_model.specs.Values.{AreValues, value_of}
use Rattle.window_text.specs.Transcripts.{whole_range}
use Rattle.live_gen.specs.Sums.{IsNumberOf, number_in, numbers_sum, sheet_sum, values_of}

-- one more value
sum_more : (values : List Value) (value : Value) → numbers_sum (values ++ value ∷ []) ≡ numbers_sum values +ℤ number_in value
sum_more [] value = +ℤ_comm (number_in value) (pos 0)
sum_more (v ∷ values) value = ap (λ s. number_in v +ℤ s) (sum_more values value) ∙ sym (+ℤ_assoc (number_in v) (numbers_sum values) (number_in value))

-- the sum of the first so many values
abbrev pub sum_to : SheetValue → ℕ → ℤ
sum_to sheet k = numbers_sum (take k (values_of sheet))

module _ (sheet : SheetValue) (codes : List ℕ) (are : AreValues sheet codes) where
  abbrev whole : Corners
  whole = whole_range sheet.sizes

  cells_count : length (cells_of whole) ≡ cell_count sheet.sizes
  cells_count =
      let rows : height whole ≡ sheet.sizes.rows = omega arith in
      let cols : width whole ≡ sheet.sizes.cols = omega arith in
      rows_length whole 1 (height whole) ∙ (λ i. rows i * cols i)

  values_count : length (values_of sheet) ≡ length codes
  values_count = length-map (cells_of whole) (value_of sheet) ∙ cells_count ∙ sym are.count

  -- the value at a place, and its code
  record StandsAt (k : ℕ) : Type 0 where
    is_value : IsValue (get_or (values_of sheet) k Empty)
    code_is : code_of (get_or (values_of sheet) k Empty) ≡ get_or codes k 0

  stands_at : (k : ℕ) → k < length codes → StandsAt k
  stands_at k below =
      let within : k < length (cells_of whole) = (let all = cells_count in let codes_count = are.count in omega (arith, below, all, codes_count)) in
      let place = range_place whole k within in
      let cell : Position = cell_of_place whole k in
      let inside : IsTrue (is_inside sheet.sizes (cell_of_place whole k)) =
      inside_from sheet.sizes (cell_of_place whole k)
      (record {
        row_from = omega arith;
        row_to = (let r = place.row in omega (arith, r));
        col_from = omega arith;
        col_to = (let c = place.col in omega (arith, c));
      }) in
      let cols : width whole ≡ sheet.sizes.cols = omega arith in
      let row_back : 1 + k / sheet.sizes.cols - 1 ≡ k / sheet.sizes.cols = omega arith in
      let col_back : 1 + k % sheet.sizes.cols - 1 ≡ k % sheet.sizes.cols = omega arith in
      let there : place_of sheet.sizes (cell_of_place whole k) ≡ k =
      ap (λ w. (1 + k / w - 1) * sheet.sizes.cols + (1 + k % w - 1)) cols ∙ (λ i. row_back i * sheet.sizes.cols + col_back i) ∙ div-add-mod' k
      sheet.sizes.cols in
      let value_is : get_or (values_of sheet) k Empty ≡ value_of sheet (cell_of_place whole k) =
      get_or_from_slice_get (values_of sheet) k (value_of sheet (cell_of_place whole k)) Empty
      (slice_get-map (value_of sheet) (cells_of whole) k ∙ ap (option_map (value_of sheet)) place.cell) in
      let code_at : get_or codes k 0 ≡ code_of (value_of sheet (cell_of_place whole k)) =
      get_or_from_slice_get codes k (code_of (value_of sheet (cell_of_place whole k))) 0
      (subst (λ (j : ℕ). slice_get codes j ≡ Some (code_of (value_of sheet (cell_of_place whole k)))) there (are.each (cell_of_place whole k) inside)) in
      record { is_value = subst IsValue (sym value_is) (are.values (cell_of_place whole k) inside); code_is = ap code_of value_is ∙ sym code_at }

  pub sum_next : (k : ℕ) (number : ℤ) → k < length codes → IsNumberOf (get_or codes k 0) number → sum_to sheet k +ℤ number ≡ sum_to sheet (k + 1)
  sum_next k number below is =
      let stands = stands_at k below in
      let number_is : number ≡ number_in (get_or (values_of sheet) k Empty) = is (get_or (values_of sheet) k Empty) stands.is_value stands.code_is in
      let within : k < length (values_of sheet) = (let count = values_count in omega (arith, below, count)) in
      let next : sum_to sheet (suc k) ≡ sum_to sheet k +ℤ number_in (get_or (values_of sheet) k Empty) =
      ap numbers_sum (take-suc (values_of sheet) k Empty within) ∙ sum_more (take k (values_of sheet)) (get_or (values_of sheet) k Empty) in
      let step : suc k ≡ k + 1 = omega arith in
      ap (λ n. sum_to sheet k +ℤ n) number_is ∙ sym next ∙ ap (sum_to sheet) step

  pub sum_all : (k : ℕ) → k ≡ length codes → sum_to sheet k ≡ sheet_sum sheet
  sum_all k is = ap (λ n. numbers_sum (take n (values_of sheet))) (is ∙ sym values_count) ∙ ap numbers_sum (take-length (values_of sheet))
