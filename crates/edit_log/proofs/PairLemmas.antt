-- How the pairs of a graph grow, cell by cell.
use Rattle.std.proofs.Common.{◌≡◌, ◌≢◌, ◌↔◌, ◌⊎◌, inl, inr, ◌<◌, ◌≤◌, ◌+◌, ◌-◌, ℕ, Bool, true, false, List, [], length, Contains}
use Rattle.std.proofs.Common.{arith, refl, sym, ap, subst, ◌∙◌}
use Rattle.std.proofs.Math.Nat.{eq-or-lt_of_le}
use Rattle.std.proofs.lemmas.Bool.{cases_lt}
use Rattle.std.proofs.lemmas.Bool.Decides.{nat_tests}
use Rattle.sheet_refs.specs.Cells.{Position, Corners}
use Rattle.sheet_refs.specs.Refs.{AreRefs}
use Rattle.sheet_refs.specs.Sizes.{is_inside}
use Rattle.formula_syntax.specs.Listing.{IsOnceEach}
use Rattle.formula_syntax.proofs.Listings.{once_all, once_back}
use Rattle.graph_walk.specs.Graphs.{Pair, Replaces, SamePairs}
use Rattle.graph_walk.specs.Series.{SeriesValue, FollowDown, LackRun, IsOfRun}
use Rattle.sheet_model.specs.Sheets.{SheetValue, content_of}
use Rattle.edit_log.specs.Pairs.{IsPairOf}
use Rattle.edit_log.specs.Waiting.{AreThoseBefore, IsBeforeRow}
use Rattle.edit_log.specs.Runs.{Follow, IsRunOf, cells_down, down, ranges_at, series_of}
use Rattle.edit_log.proofs.RunLemmas.{column_cell, column_follows, listed_range, range_listed, run_more, run_of_one, same_end, series_length}
use Rattle.sheet_model.specs.Ranges.{ranges_in}

-- a cell of a pair lies in the sheet
pub record IsCellOf (sheet : SheetValue) (cell : Position) : Type 0 where
  pub row_from : 1 ≤ cell.row
  pub row_to : cell.row ≤ sheet.sizes.rows
  pub col_from : 1 ≤ cell.col
  pub col_to : cell.col ≤ sheet.sizes.cols

inside_cell : (sheet : SheetValue) (cell : Position) → is_inside sheet.sizes cell ≡ true → IsCellOf sheet cell
inside_cell sheet cell is = record {
  row_from = grind (arith, nat_tests, is);
  row_to = grind (arith, nat_tests, is);
  col_from = grind (arith, nat_tests, is);
  col_to = grind (arith, nat_tests, is);
}

no_element : {A : Type 0} (x : A) → Contains [] x → ⊥
no_element x there = absurd (omega (arith, there))

pub pair_inside : (sheet : SheetValue) (pair : Pair) → IsPairOf sheet pair → IsCellOf sheet pair.cell
pair_inside sheet pair is = by_test (is_inside sheet.sizes pair.cell) refl
  where
    by_test : (b : Bool) → is_inside sheet.sizes pair.cell ≡ b → IsCellOf sheet pair.cell
    by_test true e = inside_cell sheet pair.cell e
    by_test false e = absurd (no_element pair.range (rw e at is))

-- before the first row of the first column there is no pair
pub none_before : (sheet : SheetValue) (Meant : Pair → Type 0) → ((pair : Pair) → ¬ Meant pair) → AreThoseBefore sheet 1 1 Meant
none_before sheet Meant none pair = (λ there. absurd (none pair there), λ at. absurd (outside at.0 (pair_inside sheet pair at.1)))
  where
    outside : IsBeforeRow 1 1 pair.cell → IsCellOf sheet pair.cell → ⊥
    outside (inl left) is = omega (arith, left, is.col_from)
    outside (inr above) is = omega (arith, above.1, is.row_from)

-- past the last row of a column the next one begins
pub column_ends : (sheet : SheetValue) (col row : ℕ) (Meant : Pair → Type 0) → sheet.sizes.rows < row
    → AreThoseBefore sheet col row Meant → AreThoseBefore sheet (col + 1) 1 Meant
column_ends sheet col row Meant past before pair =
    (λ there. let at = (before pair).0 there in (onward at.0, at.1), λ at. (before pair).1 (backward at.0 (pair_inside sheet pair at.1), at.1))
  where
    onward : IsBeforeRow col row pair.cell → IsBeforeRow (col + 1) 1 pair.cell
    onward (inl left) = inl (omega (arith, left))
    onward (inr above) = inl (omega (arith, above.0))

    backward : IsBeforeRow (col + 1) 1 pair.cell → IsCellOf sheet pair.cell → IsBeforeRow col row pair.cell
    backward (inl left) is = elim (eq-or-lt_of_le (omega (arith, left))) [
      | inl same ↦ inr (same, omega (arith, is.row_to, past))
      | inr less ↦ inl less
    ]
    backward (inr above) is = absurd (omega (arith, above.1, is.row_from))

-- past the last column all pairs are there
pub all_before : (sheet : SheetValue) (col : ℕ) (Meant : Pair → Type 0) → sheet.sizes.cols < col → AreThoseBefore sheet col 1 Meant
    → (pair : Pair) → Meant pair ↔ IsPairOf sheet pair
all_before sheet col Meant past before pair =
    (λ there. ((before pair).0 there).1, λ is. (before pair).1 (inl (omega (arith, (pair_inside sheet pair is).col_to, past)), is))

-- a cell of the next row is before it, or is that cell
row_ends : (cell other : Position) → IsBeforeRow cell.col (cell.row + 1) other → IsBeforeRow cell.col cell.row other ⊎ (other ≡ cell)
row_ends cell other (inl left) = inl (inl left)
row_ends cell other (inr above) = elim (eq-or-lt_of_le (omega (arith, above.1))) [
  | inl same ↦ inr (same_cell other cell same above.0)
  | inr less ↦ inl (inr (above.0, less))
]
  where
    at : ℕ → ℕ → Position
    at row col = record { row = row; col = col }

    same_cell : (a b : Position) → a.row ≡ b.row → a.col ≡ b.col → a ≡ b
    same_cell a b row col = ap (λ r. at r a.col) row ∙ ap (λ c. at b.row c) col

-- what is before a row is before the next one, and isn't the cell there
row_on : (cell other : Position) → IsBeforeRow cell.col cell.row other → IsBeforeRow cell.col (cell.row + 1) other × (other ≢ cell)
row_on cell other (inl left) = (inl left, λ same. absurd (omega (arith, left, ap (λ (c : Position). c.col) same)))
row_on cell other (inr above) = (inr (above.0, omega (arith, above.1)), λ same. absurd (omega (arith, above.1, ap (λ (c : Position). c.row) same)))

-- a cell is before the row below it
at_row : (cell : Position) → IsBeforeRow cell.col (cell.row + 1) cell
at_row cell = inr (refl, omega arith)

-- to what is meant before a cell come the pairs of that cell
pub cell_more : (sheet : SheetValue) (cell : Position) (Old New : Pair → Type 0) → AreThoseBefore sheet cell.col cell.row Old
    → ((pair : Pair) → New pair ↔ (Old pair ⊎ ((pair.cell ≡ cell) × IsPairOf sheet pair)))
    → AreThoseBefore sheet cell.col (cell.row + 1) New
cell_more sheet cell Old New before more pair =
    (λ there. from_new ((more pair).0 there), λ at. (more pair).1 (to_new (row_ends cell pair.cell at.0) at.1))
  where
    from_new : Old pair ⊎ ((pair.cell ≡ cell) × IsPairOf sheet pair) → IsBeforeRow cell.col (cell.row + 1) pair.cell × IsPairOf sheet pair
    from_new (inl old) = let at = (before pair).0 old in ((row_on cell pair.cell at.0).0, at.1)
    from_new (inr own) = (subst (λ (c : Position). IsBeforeRow cell.col (cell.row + 1) c) (sym own.0) (at_row cell), own.1)

    to_new : IsBeforeRow cell.col cell.row pair.cell ⊎ (pair.cell ≡ cell) → IsPairOf sheet pair
        → Old pair ⊎ ((pair.cell ≡ cell) × IsPairOf sheet pair)
    to_new (inl above) is = inl ((before pair).1 (above, is))
    to_new (inr own) is = inr (own, is)

-- room for calls leaves the pairs, of which a call then replaces those of a cell
pub replaced_alone : (old kept new : List Pair) (cell : Position) (refs : List Corners) → SamePairs old kept
    → Replaces kept new cell refs → Replaces old new cell refs
replaced_alone old kept new cell refs same replaced pair = (λ there. from_new ((replaced pair).0 there), λ at. (replaced pair).1 (to_new at))
  where
    from_new : ((pair.cell ≡ cell) × Contains refs pair.range) ⊎ ((pair.cell ≢ cell) × Contains kept pair)
        → ((pair.cell ≡ cell) × Contains refs pair.range) ⊎ ((pair.cell ≢ cell) × Contains old pair)
    from_new (inl own) = inl own
    from_new (inr other) = inr (other.0, (same pair).0 other.1)

    to_new : ((pair.cell ≡ cell) × Contains refs pair.range) ⊎ ((pair.cell ≢ cell) × Contains old pair)
        → ((pair.cell ≡ cell) × Contains refs pair.range) ⊎ ((pair.cell ≢ cell) × Contains kept pair)
    to_new (inl own) = inl own
    to_new (inr other) = inr (other.0, (same pair).1 other.1)

-- a cell before the row below some cells is before them, or is one of them
rows_end : (cell other : Position) (count : ℕ) → IsBeforeRow cell.col (cell.row + count) other
    → IsBeforeRow cell.col cell.row other ⊎ ((other.row - cell.row < count) × (other ≡ down cell (other.row - cell.row)))
rows_end cell other count (inl left) = inl (inl left)
rows_end cell other count (inr above) = elim (cases_lt other.row cell.row) [
  | inl less ↦ inl (inr (above.0, less))
  | inr least ↦ inr (omega (arith, above.1, least), same_end other (down cell (other.row - cell.row)) (omega (arith, least)) above.0)
]

-- before some cells, none of them has a pair
pub run_lacks : (sheet : SheetValue) (cell : Position) (count : ℕ) (pairs : List Pair) (Meant : Pair → Type 0)
    → ((pair : Pair) → Contains pairs pair → Meant pair) → AreThoseBefore sheet cell.col cell.row Meant → LackRun pairs (cells_down cell count)
run_lacks sheet cell count pairs Meant these before pair there inside = outside ((before pair).0 (these pair there)).0
  where
    outside : IsBeforeRow cell.col cell.row pair.cell → ⊥
    outside (inl left) = omega (arith, left, inside.col_from)
    outside (inr above) = omega (arith, above.1, inside.row_from)

-- a pair of a cell of a run is one of the sheet, and is before the row below
of_run : (sheet : SheetValue) (cell : Position) (count : ℕ) (firsts lasts : List Corners) (pair : Pair)
    → IsRunOf sheet cell count firsts lasts → IsOfRun (cells_down cell count) (series_of firsts lasts) pair
    → IsBeforeRow cell.col (cell.row + count) pair.cell × IsPairOf sheet pair
of_run sheet cell count firsts lasts pair run own =
    let series : List SeriesValue = series_of firsts lasts in
    let index : ℕ = pair.cell.row - cell.row in
    let at : (index < count) × (pair.cell ≡ down cell index) = column_cell cell pair.cell count run.some own.inside in
    let listed : Contains (ranges_at series index) pair.range =
    subst (λ (r : Corners). Contains (ranges_at series index) r) (sym own.range_is) (range_listed series index own.one own.listed) in
    let named : Contains (ranges_in (content_of sheet (down cell index))) pair.range =
    once_back (ranges_in (content_of sheet (down cell index))) (ranges_at series index) pair.range (run.listed index at.0) listed in (
      inr (ap (λ (c : Position). c.col) at.1, omega (arith, at.0, own.inside.row_from)),
      subst (λ (c : Position). Contains (ranges_in (content_of sheet c)) pair.range) (sym at.1) named,
    )

-- a pair of the sheet whose cell is one of a run is a pair of the run
to_run : (sheet : SheetValue) (cell : Position) (count : ℕ) (firsts lasts : List Corners) (pair : Pair)
    → IsRunOf sheet cell count firsts lasts → pair.cell.row - cell.row < count → pair.cell ≡ down cell (pair.cell.row - cell.row)
    → IsPairOf sheet pair → IsOfRun (cells_down cell count) (series_of firsts lasts) pair
to_run sheet cell count firsts lasts pair run below same is =
    let series : List SeriesValue = series_of firsts lasts in
    let index : ℕ = pair.cell.row - cell.row in
    let named : Contains (ranges_in (content_of sheet (down cell index))) pair.range =
    subst (λ (c : Position). Contains (ranges_in (content_of sheet c)) pair.range) same is in
    let one = listed_range series index pair.range
    (once_all (ranges_in (content_of sheet (down cell index))) (ranges_at series index) pair.range (run.listed index below) named) in
    let row : pair.cell.row ≡ cell.row + index = ap (λ (c : Position). c.row) same in
    let col : pair.cell.col ≡ cell.col = ap (λ (c : Position). c.col) same in
    record {
      inside = record { row_from = omega (arith, row); row_to = omega (arith, row, below); col_from = omega (arith, col); col_to = omega (arith, col) };
      one = one.0;
      listed = one.1;
      range_is = one.2;
    }

-- the cells of a run have the pairs that its series give them
pub run_added : (sheet : SheetValue) (cell : Position) (count : ℕ) (firsts lasts : List Corners) (Old New : Pair → Type 0)
    → IsRunOf sheet cell count firsts lasts → AreThoseBefore sheet cell.col cell.row Old
    → ((pair : Pair) → New pair ↔ (IsOfRun (cells_down cell count) (series_of firsts lasts) pair ⊎ Old pair))
    → AreThoseBefore sheet cell.col (cell.row + count) New
run_added sheet cell count firsts lasts Old New run before adds pair =
    (λ there. from_new ((adds pair).0 there), λ at. (adds pair).1 (to_new (rows_end cell pair.cell count at.0) at.1))
  where
    still : IsBeforeRow cell.col cell.row pair.cell → IsBeforeRow cell.col (cell.row + count) pair.cell
    still (inl left) = inl left
    still (inr above) = inr (above.0, omega (arith, above.1))

    from_new : IsOfRun (cells_down cell count) (series_of firsts lasts) pair ⊎ Old pair
        → IsBeforeRow cell.col (cell.row + count) pair.cell × IsPairOf sheet pair
    from_new (inl own) = of_run sheet cell count firsts lasts pair run own
    from_new (inr kept) = let at = (before pair).0 kept in (still at.0, at.1)

    to_new : IsBeforeRow cell.col cell.row pair.cell
        ⊎ ((pair.cell.row - cell.row < count) × (pair.cell ≡ down cell (pair.cell.row - cell.row))) → IsPairOf sheet pair
        → IsOfRun (cells_down cell count) (series_of firsts lasts) pair ⊎ Old pair
    to_new (inl above) is = inr ((before pair).1 (above, is))
    to_new (inr among) is = inl (to_run sheet cell count firsts lasts pair run among.0 among.1 is)

-- the ranges of the cell below a run, by its row and its column
pub named_down : (sheet : SheetValue) (cell below : Position) (count : ℕ) (ranges : List Corners) → below ≡ down cell count
    → IsOnceEach (ranges_in (content_of sheet below)) ranges → IsOnceEach (ranges_in (content_of sheet (down cell count))) ranges
named_down sheet cell below count ranges same once = subst (λ (p : Position). IsOnceEach (ranges_in (content_of sheet p)) ranges) same once

-- a run begins with a cell, and grows by the cell below it
pub run_first : (sheet : SheetValue) (cell : Position) (firsts : List Corners) → AreRefs firsts
    → IsOnceEach (ranges_in (content_of sheet cell)) firsts → IsRunOf sheet cell 1 firsts firsts
run_first sheet cell firsts are once =
    run_of_one (λ index. ranges_in (content_of sheet (down cell index))) firsts are
    (named_down sheet cell cell 0 firsts (same_end cell (down cell 0) (omega arith) refl) once)

pub run_on : (sheet : SheetValue) (cell : Position) (count : ℕ) (firsts lasts nexts : List Corners)
    → IsRunOf sheet cell count firsts lasts → Follow count firsts lasts nexts
    → IsOnceEach (ranges_in (content_of sheet (down cell count))) nexts → IsRunOf sheet cell (count + 1) firsts nexts
run_on sheet cell count firsts lasts nexts run follow once =
    run_more (λ index. ranges_in (content_of sheet (down cell index))) count firsts lasts nexts run follow once

-- what the series of several cells are
pub run_follows : (sheet : SheetValue) (cell : Position) (count : ℕ) (firsts lasts : List Corners)
    → IsRunOf sheet cell count firsts lasts → 2 ≤ count → FollowDown (cells_down cell count) (series_of firsts lasts)
run_follows sheet cell count firsts lasts run several =
    column_follows (λ index. ranges_in (content_of sheet (down cell index))) cell count firsts lasts run several

-- a run whose cells refer to nothing has no pairs
pub nothing_added : (sheet : SheetValue) (cell : Position) (count : ℕ) (firsts lasts : List Corners) (Meant : Pair → Type 0)
    → length firsts ≡ 0 → IsRunOf sheet cell count firsts lasts → AreThoseBefore sheet cell.col cell.row Meant
    → AreThoseBefore sheet cell.col (cell.row + count) Meant
nothing_added sheet cell count firsts lasts Meant none run before = run_added sheet cell count firsts lasts Meant Meant run before adds
  where
    no_series : (one : SeriesValue) → Contains (series_of firsts lasts) one → ⊥
    no_series one there = omega (arith, there.1, series_length firsts lasts run.as_many, none)

    adds : (pair : Pair) → Meant pair ↔ (IsOfRun (cells_down cell count) (series_of firsts lasts) pair ⊎ Meant pair)
    adds pair = (λ there. inr there, λ either. elim either [ inl own ↦ absurd (no_series own.one own.listed) | inr kept ↦ kept ])
