-- The list of a range's cells, place by place: row by row, and within a row from left to right.
use Rattle.std.proofs.lemmas.Nat.{mul-add-lt}
use Rattle.std.proofs.Common.{◌≡◌, ℕ, zero, suc, ◌+◌, ◌-◌, ◌*◌, ◌/◌, ◌%◌, ◌<◌, ◌↔◌, List, length, get_or, refl, sym, ◌∙◌, ap, arith}
use Rattle.std.specs.List.{range_with_len, flat_map, Contains}
use Rattle.std.proofs.lemmas.List.{get_or_append_left, get_or-append_right, length-append}
use Rattle.std.proofs.lemmas.List.FromFn.{get_or-map-range_with_len, length-map-range_with_len}
use Rattle.sheet_refs.specs.Cells.{Position, Corners, IsIn, IsOrdered, height, width, row_cells, cells_of}

-- the cells of so many rows of a range, from a first row on
abbrev pub rows_from : Corners → ℕ → ℕ → List Position
rows_from range first count = flat_map (row_cells range) (range_with_len first count)

row_length : (range : Corners) (row : ℕ) → length (row_cells range row) ≡ width range
row_length range row = length-map-range_with_len _ range.head.col (width range)

pub rows_length : (range : Corners) (first count : ℕ) → length (rows_from range first count) ≡ count * width range
rows_length range first zero = omega arith
rows_length range first (suc count) =
    let whole = length-append (row_cells range first) (rows_from range (first + 1) count) in
    let row = row_length range first in
    let rest = rows_length range (first + 1) count in
    omega (arith, whole, row, rest)

abbrev at_col : ℕ → ℕ → Position
at_col row col = record { row = row; col = col }

-- two positions with the same row and the same column are one
pub same_position : {a b x y : ℕ} → a ≡ b → x ≡ y → at_col a x ≡ at_col b y
same_position row col = cc

-- the cell in the i-th row and the j-th column of these rows
pub cell_at : (range : Corners) (first count i j : ℕ) (d : Position) → i < count → j < width range
    → get_or (rows_from range first count) (i * width range + j) d ≡ record {
      row = first + i;
      col = range.head.col + j;
    }
cell_at range first zero i j d below inside = absurd (omega arith)
cell_at range first (suc count) zero j d below inside =
    let row = row_length range first in
    let at = get_or-map-range_with_len (λ col. at_col first col) range.head.col (width range) j (range.head.col + j) d inside refl in
    let left = get_or_append_left (row_cells range first) (rows_from range (first + 1) count) d j (omega (arith, row)) in
    let place : 0 * width range + j ≡ j = omega arith in
    let same : first + 0 ≡ first = omega arith in
    rw (place, same) (left ∙ at)
cell_at range first (suc count) (suc i) j d below inside =
    let row = row_length range first in
    let right = get_or-append_right (row_cells range first) (rows_from range (first + 1) count) (width range) (suc i * width range + j) d row (omega arith) in
    let place : suc i * width range + j - width range ≡ i * width range + j = omega arith in
    let same : first + suc i ≡ first + 1 + i = omega arith in
    let rest = cell_at range (first + 1) count i j d (omega arith) inside in
    rw same (right ∙ rw place rest)

-- a place of the list as a row and a column
split_place : (width count k : ℕ) → k < count * width → (k / width < count) × (k % width < width) × (k / width * width + k % width ≡ k)
split_place width count k below = grind arith

-- the list holds the range's cells and no others
pub cells_listed : (range : Corners) → IsOrdered range.head range.tail → (cell : Position) → Contains (cells_of range) cell ↔ IsIn cell range
cells_listed range ordered cell = (from_list, to_list)
  where
    all_length : length (cells_of range) ≡ height range * width range
    all_length = rows_length range range.head.row (height range)

    from_list : Contains (cells_of range) cell → IsIn cell range
    from_list (k, below, is) =
        let place = split_place (width range) (height range) k (omega (arith, below, all_length)) in
        let w = width range in
        let at = cell_at range range.head.row (height range) (k / w) (k % w) cell place.0 place.1 in
        let here : at_col (range.head.row + k / w) (range.head.col + k % w) ≡ cell = sym at ∙ (rw place.2 is) in
        let row : range.head.row + k / w ≡ cell.row = ap (λ (c : Position). c.row) here in
        let col : range.head.col + k % w ≡ cell.col = ap (λ (c : Position). c.col) here in
        record { row_from = omega arith; row_to = omega (arith, place.0); col_from = omega arith; col_to = omega (arith, place.1) }

    to_list : IsIn cell range → Contains (cells_of range) cell
    to_list inside =
        let i = cell.row - range.head.row in
        let j = cell.col - range.head.col in
        let row_in : i < height range = omega arith in
        let col_in : j < width range = omega arith in
        let at = cell_at range range.head.row (height range) i j cell row_in col_in in
        let row : range.head.row + i ≡ cell.row = omega arith in
        let col : range.head.col + j ≡ cell.col = omega arith in
        (i * width range + j, omega (arith, all_length, mul-add-lt i (width range) j (height range) row_in col_in), at ∙ same_position row col)
