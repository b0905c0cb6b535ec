-- What is left of a range without the cells that it shares with another, in four parts round them.
use Rattle.std.proofs.Common.{◌≡◌, ℕ, ◌+◌, ◌<◌, ◌≤◌, ◌↔◌, ◌⊎◌, inl, inr, List, ◌++◌, arith}
use Rattle.std.proofs.lemmas.Bool.{cases_lt}
use Rattle.sheet_refs.specs.Cells.{Position, Corners, IsIn, IsOrdered}
use Rattle.sheet_refs.specs.Rectangles.{IsShared, Tile, IsBetween, IsLeft}
use Rattle.sheet_refs.proofs.Tiles.{tile_append}

-- the four parts, in rows and columns round the middle
abbrev pub IsAbove : Corners → Corners → Position → Type 0
IsAbove range middle = IsBetween range.head.row middle.head.row range.head.col (range.tail.col + 1)

abbrev pub IsBelow : Corners → Corners → Position → Type 0
IsBelow range middle = IsBetween (middle.tail.row + 1) (range.tail.row + 1) range.head.col (range.tail.col + 1)

abbrev pub IsBefore : Corners → Corners → Position → Type 0
IsBefore range middle = IsBetween middle.head.row (middle.tail.row + 1) range.head.col middle.head.col

abbrev pub IsAfter : Corners → Corners → Position → Type 0
IsAfter range middle = IsBetween middle.head.row (middle.tail.row + 1) (middle.tail.col + 1) (range.tail.col + 1)

-- the middle lies within the range
pub record IsMiddle (range middle : Corners) : Type 0 where
  pub top : range.head.row ≤ middle.head.row
  pub bottom : middle.tail.row ≤ range.tail.row
  pub left : range.head.col ≤ middle.head.col
  pub right : middle.tail.col ≤ range.tail.col
  pub rows : middle.head.row ≤ middle.tail.row
  pub cols : middle.head.col ≤ middle.tail.col

middle_from : (range other middle : Corners) → ((cell : Position) → IsIn cell middle ↔ IsShared range other cell)
    → IsOrdered middle.head middle.tail → IsMiddle range middle
middle_from range other middle shared ordered =
    let head : IsIn middle.head range =
    ((shared middle.head).0 (record {
      row_from = omega arith;
      row_to = omega arith;
      col_from = omega arith;
      col_to = omega arith;
    })).first in
    let tail : IsIn middle.tail range =
    ((shared middle.tail).0 (record {
      row_from = omega arith;
      row_to = omega arith;
      col_from = omega arith;
      col_to = omega arith;
    })).first in
    record { top = omega arith; bottom = omega arith; left = omega arith; right = omega arith; rows = omega arith; cols = omega arith }

-- a cell in one of the parts lies in the range, and outside the middle
within_range : (range middle : Corners) (cell : Position) → IsMiddle range middle → IsAbove range middle cell
    ⊎ IsBelow range middle cell ⊎ IsBefore range middle cell ⊎ IsAfter range middle cell → IsIn cell range
within_range range middle cell m (inl part) = record { row_from = omega arith; row_to = omega arith; col_from = omega arith; col_to = omega arith }
within_range range middle cell m (inr (inl part)) = record { row_from = omega arith; row_to = omega arith; col_from = omega arith; col_to = omega arith }
within_range range middle cell m (inr (inr (inl part))) = record { row_from = omega arith; row_to = omega arith; col_from = omega arith; col_to = omega arith }
within_range range middle cell m (inr (inr (inr part))) = record { row_from = omega arith; row_to = omega arith; col_from = omega arith; col_to = omega arith }

outside_middle : (range middle : Corners) (cell : Position) → IsAbove range middle cell ⊎ IsBelow range middle cell
    ⊎ IsBefore range middle cell ⊎ IsAfter range middle cell → IsIn cell middle → ⊥
outside_middle range middle cell (inl part) inside = omega arith
outside_middle range middle cell (inr (inl part)) inside = omega arith
outside_middle range middle cell (inr (inr (inl part))) inside = omega arith
outside_middle range middle cell (inr (inr (inr part))) inside = omega arith

-- a cell of the range outside the middle is in one of the parts
in_part : (range middle : Corners) (cell : Position) → IsIn cell range → (IsIn cell middle → ⊥)
    → IsAbove range middle cell ⊎ IsBelow range middle cell ⊎ IsBefore range middle cell ⊎ IsAfter range middle cell
in_part range middle cell inside outside = by_rows (cases_lt cell.row middle.head.row) (cases_lt middle.tail.row cell.row)
  where
    by_cols : middle.head.row ≤ cell.row → cell.row ≤ middle.tail.row → (cell.col < middle.head.col)
        ⊎ (middle.head.col ≤ cell.col) → (middle.tail.col < cell.col) ⊎ (cell.col ≤ middle.tail.col)
        → IsAbove range middle cell ⊎ IsBelow range middle cell ⊎ IsBefore range middle cell ⊎ IsAfter range middle cell
    by_cols from to (inl before) _ = inr (inr (inl (record { row_from = from; row_below = omega arith; col_from = omega arith; col_below = before })))
    by_cols from to (inr col_from) (inl after) =
        inr
        (inr (inr (record {
          row_from = from;
          row_below = omega arith;
          col_from = omega arith;
          col_below = omega arith;
        })))
    by_cols from to (inr col_from) (inr col_to) = absurd (outside (record { row_from = from; row_to = to; col_from = col_from; col_to = col_to }))

    by_rows : (cell.row < middle.head.row) ⊎ (middle.head.row ≤ cell.row) → (middle.tail.row < cell.row) ⊎ (cell.row ≤ middle.tail.row)
        → IsAbove range middle cell ⊎ IsBelow range middle cell ⊎ IsBefore range middle cell ⊎ IsAfter range middle cell
    by_rows (inl above) _ = inl (record { row_from = omega arith; row_below = above; col_from = omega arith; col_below = omega arith })
    by_rows (inr from) (inl below) = inr (inl (record { row_from = omega arith; row_below = omega arith; col_from = omega arith; col_below = omega arith }))
    by_rows (inr from) (inr to) = by_cols from to (cases_lt cell.col middle.head.col) (cases_lt middle.tail.col cell.col)

-- what is left of a range round the cells that it shares with another: above them, below them, and on both sides
pub subtract_tiles : (range other middle : Corners) (above below before after : List Corners)
    → ((cell : Position) → IsIn cell middle ↔ IsShared range other cell) → IsOrdered middle.head middle.tail
    → Tile above (IsAbove range middle) → Tile below (IsBelow range middle) → Tile before (IsBefore range middle) → Tile after (IsAfter range middle)
    → Tile (above ++ (below ++ (before ++ after))) (IsLeft range other)
subtract_tiles range other middle above below before after shared ordered above_tiled below_tiled before_tiled after_tiled =
    tile_append above (below ++ (before ++ after)) (IsAbove range middle) (λ cell. IsBelow range middle cell
    ⊎ IsBefore range middle cell ⊎ IsAfter range middle cell) (IsLeft range other)
    above_tiled
    (tile_append below (before ++ after) (IsBelow range middle) (λ cell. IsBefore range middle cell
    ⊎ IsAfter range middle cell) (λ cell. IsBelow range middle cell ⊎ IsBefore range middle cell
    ⊎ IsAfter range middle cell)
    below_tiled
    (tile_append before after (IsBefore range middle) (IsAfter range middle) (λ cell. IsBefore range middle cell
    ⊎ IsAfter range middle cell) before_tiled after_tiled (λ cell a b. omega arith) (λ cell. (λ x. x, λ x. x)))
    (λ cell a b. elim b [ inl x ↦ omega arith | inr x ↦ omega arith ])
    (λ cell. (λ x. x, λ x. x)))
    (λ cell a b. elim b [ inl x ↦ omega arith | inr y ↦ elim y [ inl x ↦ omega arith | inr x ↦ omega arith ] ])
    (λ cell. (to cell, from cell))
  where
    m : IsMiddle range middle
    m = middle_from range other middle shared ordered

    to : (cell : Position) → IsLeft range other cell → IsAbove range middle cell ⊎ IsBelow range middle cell
        ⊎ IsBefore range middle cell ⊎ IsAfter range middle cell
    to cell left = in_part range middle cell left.inside (λ in_middle. left.outside ((shared cell).0 in_middle).second)

    from : (cell : Position) → IsAbove range middle cell ⊎ IsBelow range middle cell ⊎ IsBefore range middle cell
        ⊎ IsAfter range middle cell → IsLeft range other cell
    from cell parts =
        let inside : IsIn cell range = within_range range middle cell m parts in
        record {
          inside = inside;
          outside = λ in_other. outside_middle range middle cell parts
              ((shared cell).1 (record { first = inside; second = in_other }));
        }

-- the same rows and columns, written otherwise
pub between_same : {top bottom left right t b l r : ℕ} (ranges : List Corners) → t ≡ top → b ≡ bottom → l ≡ left
    → r ≡ right → Tile ranges (IsBetween t b l r) → Tile ranges (IsBetween top bottom left right)
between_same ranges same_top same_bottom same_left same_right tiled = rw (← same_top, ← same_bottom, ← same_left, ← same_right) tiled
