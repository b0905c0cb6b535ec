-- Places of cells in a rectangle that begins at A1, and in a range.
use Rattle.std.proofs.Common.{◌≡◌, ℕ, ◌+◌, ◌-◌, ◌*◌, ◌/◌, ◌%◌, ◌<◌, ◌≤◌, List, length, get_or, slice_get, Some, IfSome, Option, IsTrue, sym, ◌∙◌, ap, arith}
use Rattle.std.proofs.lemmas.Bool.Decides.{nat_tests}
use Rattle.std.proofs.lemmas.Nat.{rows, same_from_place, div-mul-add, div-add-mod'}
use Rattle.std.proofs.lemmas.Option.{slice_get-get_or, MatchOption-at_some}
use Rattle.sheet_refs.specs.Cells.{Position, Corners, IsIn, IsOrdered, height, width, cells_of}
use Rattle.sheet_refs.specs.declared.sizes.Sizes.{Sizes}
use Rattle.sheet_refs.specs.Sizes.{is_inside, place_of, cell_count, cell_of_place}
use Rattle.sheet_refs.proofs.Grid.{cell_at, rows_length}

-- where a position in the rectangle lies
pub record IsInside (sizes : Sizes) (cell : Position) : Type 0 where
  pub row_from : 1 ≤ cell.row
  pub row_to : cell.row ≤ sizes.rows
  pub col_from : 1 ≤ cell.col
  pub col_to : cell.col ≤ sizes.cols

pub inside_bounds : (sizes : Sizes) (cell : Position) → IsTrue (is_inside sizes cell) → IsInside sizes cell
inside_bounds sizes cell inside = record {
  row_from = grind (arith, nat_tests);
  row_to = grind (arith, nat_tests);
  col_from = grind (arith, nat_tests);
  col_to = grind (arith, nat_tests);
}

pub inside_from : (sizes : Sizes) (cell : Position) → IsInside sizes cell → IsTrue (is_inside sizes cell)
inside_from sizes cell bounds = grind (arith, nat_tests)

-- the place of a cell in the rectangle is below the number of cells
pub place-lt : (sizes : Sizes) (cell : Position) → IsTrue (is_inside sizes cell) → place_of sizes cell < cell_count sizes
place-lt sizes cell inside =
    let bounds = inside_bounds sizes cell inside in
    let row_lt : cell.row - 1 < sizes.rows = omega arith in
    let col_lt : cell.col - 1 < sizes.cols = omega arith in
    grind (arith, rows)

-- two cells in the rectangle at one place are one cell
pub place_same : (sizes : Sizes) (a b : Position) → IsTrue (is_inside sizes a) → IsTrue (is_inside sizes b) → place_of sizes a ≡ place_of sizes b → a ≡ b
place_same sizes a b a_inside b_inside same =
    let a_bounds = inside_bounds sizes a a_inside in
    let b_bounds = inside_bounds sizes b b_inside in
    let parts = same_from_place (a.row - 1) (a.col - 1) (b.row - 1) (b.col - 1) sizes.cols (omega arith) (omega arith) same in
    let row_same : a.row ≡ b.row = omega arith in
    let col_same : a.col ≡ b.col = omega arith in
    λ i. record { row = row_same i; col = col_same i }

-- a place of a range, as a row and a column, and the cell there
pub record IsPlace (range : Corners) (place : ℕ) : Type 0 where
  pub row : place / width range < height range
  pub col : place % width range < width range
  pub cell : slice_get (cells_of range) place ≡ Some (cell_of_place range place)

split_place : (width count k : ℕ) → k < count * width → (k / width < count) × (k % width < width) × (k / width * width + k % width ≡ k)
split_place width count k below = grind arith

pub range_place : (range : Corners) (place : ℕ) → place < length (cells_of range) → IsPlace range place
range_place range place below =
    let all : length (cells_of range) ≡ height range * width range = rows_length range range.head.row (height range) in
    let w = width range in
    let parts = split_place w (height range) place (omega (arith, below, all)) in
    let here : get_or (cells_of range) place range.head ≡ cell_of_place range place =
    rw parts.2 at (cell_at range range.head.row (height range) (place / w) (place % w) range.head parts.0 parts.1) in
    record { row = parts.0; col = parts.1; cell = slice_get-get_or (cells_of range) place range.head below ∙ ap Some here }

-- the same for a width that was computed from the ends
pub place_bounds : (range : Corners) (place left right w : ℕ) → IsOrdered range.head range.tail
    → place < length (cells_of range) → left ≡ range.head.col → right ≡ range.tail.col → w ≡ right - left + 1
    → (place / w < height range) × (place % w < width range) × (w ≡ width range)
place_bounds range place left right w ordered below left_is right_is w_is =
    let same : w ≡ width range = (let h = ordered.cols in omega arith) in
    let at = range_place range place below in
    (rw same at.row, rw same at.col, same)

-- a cell made of the row and the column of a place
pub made_at : (range : Corners) (place w row col : ℕ) (made : Option Position) (cell : Position)
    → place < length (cells_of range) → w ≡ width range → row ≡ range.head.row → col ≡ range.head.col
    → IfSome made (λ c. (c.row ≡ row + place / w) × (c.col ≡ col + place % w)) → made ≡ Some cell
    → cell ≡ cell_of_place range place
made_at range place w row col made cell below w_is row_is col_is position is =
    let parts = MatchOption-at_some _ _ cell is position in
    let at_row : cell.row ≡ range.head.row + place / width range = rw (← w_is, ← row_is) parts.0 in
    let at_col : cell.col ≡ range.head.col + place % width range = rw (← w_is, ← col_is) parts.1 in
    λ i. record { row = at_row i; col = at_col i }

pub place_inside : (range : Corners) (place : ℕ) → IsOrdered range.head range.tail → place < length (cells_of range) → IsIn (cell_of_place range place) range
place_inside range place ordered below =
    let at = range_place range place below in
    let h = ordered in
    record { row_from = omega arith; row_to = omega (arith, at.row); col_from = omega arith; col_to = omega (arith, at.col) }

-- the place behind one lies in the same row, where that goes on
within_row : (w place : ℕ) → place % w + 1 < w → ((place + 1) / w ≡ place / w) × ((place + 1) % w ≡ place % w + 1)
within_row w place goes_on =
    let whole : place + 1 ≡ place / w * w + (place % w + 1) = omega (arith, div-add-mod' place w) in
    let row : (place + 1) / w ≡ place / w = ap (λ n. n / w) whole ∙ div-mul-add (place / w) w (place % w + 1) goes_on in
    let product : (place + 1) / w * w ≡ place / w * w = ap (λ n. n * w) row in
    (row, omega (arith, div-add-mod' (place + 1) w, product, whole))

-- else it is the first of the next row
past_row : (w place : ℕ) → place % w + 1 ≡ w → ((place + 1) / w ≡ place / w + 1) × ((place + 1) % w ≡ 0)
past_row w place ends =
    let first : (place / w + 1) * w ≡ place / w * w + w = grind arith in
    let whole : place + 1 ≡ (place / w + 1) * w + 0 = omega (arith, div-add-mod' place w, first) in
    let row : (place + 1) / w ≡ place / w + 1 = ap (λ n. n / w) whole ∙ div-mul-add (place / w + 1) w 0 (omega arith) in
    let product : (place + 1) / w * w ≡ (place / w + 1) * w = ap (λ n. n * w) row in
    (row, omega (arith, div-add-mod' (place + 1) w, product, whole))

-- the first cell is the head
pub first_cell : (range : Corners) → IsOrdered range.head range.tail → slice_get (cells_of range) 0 ≡ Some range.head
first_cell range ordered =
    let all : length (cells_of range) ≡ height range * width range = rows_length range range.head.row (height range) in
    let h = ordered.rows in
    let k = ordered.cols in
    let some : 0 < height range * width range = grind arith in
    let at = range_place range 0 (omega (arith, all, some)) in
    let w = width range in
    let row : range.head.row + 0 / w ≡ range.head.row = grind arith in
    let col : range.head.col + 0 % w ≡ range.head.col = grind arith in
    let same : cell_of_place range 0 ≡ range.head = λ i. record { row = row i; col = col i } in
    at.cell ∙ ap Some same

-- where a cell that stands at a place lies, and that the place of the next one is in the range
record StandsAt (range : Corners) (place : ℕ) (cell : Position) : Type 0 where
  row : cell.row ≡ range.head.row + place / width range
  col : cell.col ≡ range.head.col + place % width range
  in_row : place % width range < width range
  next_in : (place + 1) / width range < height range
  next : slice_get (cells_of range) (place + 1) ≡ Some (cell_of_place range (place + 1))

same_entry : {a b : Position} → Some a ≡ Some b → a ≡ b
same_entry is = cc

stands_at : (range : Corners) (place : ℕ) (cell : Position) → slice_get (cells_of range) place ≡ Some cell
    → place + 1 < length (cells_of range) → StandsAt range place cell
stands_at range place cell here below =
    let at = range_place range place (omega arith) in
    let behind = range_place range (place + 1) below in
    let same : cell ≡ cell_of_place range place = same_entry (sym here ∙ at.cell) in
    record {
      row = ap (λ (c : Position). c.row) same;
      col = ap (λ (c : Position). c.col) same;
      in_row = at.col;
      next_in = behind.row;
      next = behind.cell;
    }

-- a cell made of a row and a column
made_of : (made : Option Position) (cell : Position) (row col : ℕ) → IfSome made (λ c. (c.row ≡ row) × (c.col ≡ col))
    → made ≡ Some cell → cell ≡ record { row = row; col = col }
made_of made cell row col position is =
    let parts = MatchOption-at_some _ _ cell is position in
    λ i. record { row = parts.0 i; col = parts.1 i }

-- the cell behind one, by a row and a column that are computed from it: in the same row
pub next_in_row : (range : Corners) (cell next : Position) (made : Option Position) (row col last : ℕ)
    → IsOrdered range.head range.tail → row ≡ cell.row → col ≡ cell.col → last ≡ range.tail.col → col < last
    → IfSome made (λ c. (c.row ≡ row) × (c.col ≡ col + 1)) → made ≡ Some next → (place : ℕ)
    → slice_get (cells_of range) place ≡ Some cell → place + 1 < length (cells_of range)
    → slice_get (cells_of range) (place + 1) ≡ Some next
next_in_row range cell next made row col last ordered row_is col_is last_is within position is place here below =
    let at = stands_at range place cell here below in
    let h = ordered.cols in
    let col_at = at.col in
    let row_at = at.row in
    let parts = within_row (width range) place (omega arith) in
    let at_row : range.head.row + (place + 1) / width range ≡ row = omega (arith, parts) in
    let at_col : range.head.col + (place + 1) % width range ≡ col + 1 = omega (arith, parts) in
    let same : cell_of_place range (place + 1) ≡ record { row = row; col = col + 1 } = λ i. record { row = at_row i; col = at_col i } in
    at.next ∙ ap Some (same ∙ sym (made_of made next row (col + 1) position is))

-- and in the next one
pub next_row : (range : Corners) (cell next : Position) (made : Option Position) (row col last first : ℕ)
    → IsOrdered range.head range.tail → IsIn cell range → row ≡ cell.row → col ≡ cell.col → last ≡ range.tail.col
    → first ≡ range.head.col → last ≤ col → IfSome made (λ c. (c.row ≡ row + 1) × (c.col ≡ first)) → made ≡ Some next
    → (place : ℕ) → slice_get (cells_of range) place ≡ Some cell → place + 1 < length (cells_of range)
    → slice_get (cells_of range) (place + 1) ≡ Some next
next_row range cell next made row col last first ordered inside row_is col_is last_is first_is ends position is place here below =
    let at = stands_at range place cell here below in
    let h = ordered.cols in
    let col_at = at.col in
    let row_at = at.row in
    let in_row = at.in_row in
    let parts = past_row (width range) place (omega arith) in
    let at_row : range.head.row + (place + 1) / width range ≡ row + 1 = omega (arith, parts) in
    let at_col : range.head.col + (place + 1) % width range ≡ first = omega (arith, parts) in
    let same : cell_of_place range (place + 1) ≡ record { row = row + 1; col = first } = λ i. record { row = at_row i; col = at_col i } in
    at.next ∙ ap Some (same ∙ sym (made_of made next (row + 1) first position is))

-- behind the tail there is none
pub none_behind : (range : Corners) (cell : Position) (row col last_row last_col : ℕ) → IsOrdered range.head range.tail
    → row ≡ cell.row → col ≡ cell.col → last_row ≡ range.tail.row → last_col ≡ range.tail.col → last_col ≤ col
    → last_row ≤ row → (place : ℕ) → slice_get (cells_of range) place ≡ Some cell → place + 1 < length (cells_of range)
    → ⊥
none_behind range cell row col last_row last_col ordered row_is col_is row_last col_last ends bottom place here below =
    let at = stands_at range place cell here below in
    let h = ordered.cols in
    let k = ordered.rows in
    let col_at = at.col in
    let row_at = at.row in
    let in_row = at.in_row in
    let next_in = at.next_in in
    let parts = past_row (width range) place (omega arith) in
    omega (arith, parts)

-- a walk over the places of a range has come to a place, and to the cell there as long as there is one
pub record HasComeTo (range : Corners) (place : ℕ) (cell : Position) : Type 0 where
  pub inside : IsIn cell range
  pub listed : place < length (cells_of range) → slice_get (cells_of range) place ≡ Some cell

pub comes_to_head : (range : Corners) → IsOrdered range.head range.tail → HasComeTo range 0 range.head
comes_to_head range ordered = record {
  inside = (let h = ordered in record { row_from = omega arith; row_to = h.rows; col_from = omega arith; col_to = h.cols });
  listed = λ _. first_cell range ordered;
}

pub comes_to_next : (range : Corners) (place : ℕ) (cell next : Position) → HasComeTo range place cell
    → place < length (cells_of range) → ((k : ℕ) → slice_get (cells_of range) k ≡ Some cell
    → k + 1 < length (cells_of range) → slice_get (cells_of range) (k + 1) ≡ Some next) → IsIn next range
    → HasComeTo range (place + 1) next
comes_to_next range place cell next at below behind inside = record {
  inside = inside;
  listed = λ more. behind place (at.listed below) more;
}
