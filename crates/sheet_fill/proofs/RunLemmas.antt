-- Runs that are filled cell by cell, and the edges that they are.
use Rattle.std.proofs.Common.{◌≡◌, ◌⊎◌, ◌↔◌, inl, inr, ℕ, ◌+◌, ◌-◌, ◌*◌, ◌/◌, ◌%◌, ◌<◌, ◌≤◌, Bool, true, false, length, Option, None, Some, IsSome}
use Rattle.std.proofs.Common.{arith, refl, sym, ap, ◌∙◌, subst}
use Rattle.std.specs.Prelude.{◌==◌}
use Rattle.std.proofs.lemmas.Bool.{cases_eq}
use Rattle.std.proofs.lemmas.Bool.Decides.{nat_tests}
use Rattle.std.proofs.lemmas.Nat.{div-mul-add, mod-mul-add}
use Rattle.std.proofs.lemmas.Option.{same_Some}
use Rattle.sheet_refs.specs.Cells.{Position, Corners, IsIn, IsOrdered, cells_of, height, width}
use Rattle.sheet_refs.specs.Ends.{Reference, corners_of}
use Rattle.sheet_refs.specs.Sizes.{cell_of_place}
use Rattle.sheet_refs.proofs.Grid.{rows_length}
use Rattle.edge_patterns.specs.declared.axis.Axis.{Axis}
use Rattle.edge_patterns.specs.declared.axis.Axis.TheVariants.{Down, Right}
use Rattle.edge_patterns.specs.Axes.{IsLine, axis_of, cell_along}
use Rattle.edge_patterns.specs.Edges.{EdgeValue, IsEdge, IsPair, IsRange}
use Rattle.edge_patterns.specs.Joins.{CanBeJoined, Follows, IsJoin}
use Rattle.edge_patterns.proofs.Crossings.{ordered}
use Rattle.edge_patterns.proofs.RectangleLemmas.{single_pair}
use Rattle.edge_patterns.proofs.UnionLemmas.{run_has_ranges, same_cells}
use Rattle.edge_patterns.proofs.WithinLemmas.{joins_within}
use Rattle.sheet_fill.specs.FilledRuns.{IsFilledBelow, IsFilledEdge, StaysNamed, cell_count_of, reference_along}
use Rattle.sheet_fill.specs.Singles.{IsSingleAt}

-- the direction of a run by a test
abbrev axis_by : Bool → Axis
axis_by true = Down
axis_by false = Right

-- a run has as many cells along its direction as in all
pub run_count : (run : Corners) → IsLine (axis_of run) run → length (cells_of run) ≡ cell_count_of run
run_count run line = go (run.head.col == run.tail.col) refl
  where
    long : length (cells_of run) ≡ height run * width run
    long = rows_length run run.head.row (height run)

    go : (t : Bool) → (run.head.col == run.tail.col) ≡ t → length (cells_of run) ≡ cell_count_of run
    go true column =
        let cols : run.head.col ≡ run.tail.col = grind (arith, nat_tests, column) in
        let one : width run ≡ 1 = omega (arith, cols) in
        let all : height run * width run ≡ height run = ap (λ n. height run * n) one ∙ omega arith in
        rw column (long ∙ all)
    go false row =
        let rows : run.head.row ≡ run.tail.row = rw row at line in
        let one : height run ≡ 1 = omega (arith, rows) in
        let all : height run * width run ≡ width run = ap (λ n. n * width run) one ∙ omega arith in
        rw row (long ∙ all)

-- it has some
pub run_some : (run : Corners) → IsRange run → 1 ≤ cell_count_of run
run_some run is = let long = (ordered (axis_of run) run is.ordered).line in omega (arith, long)

-- a number below another one is the rest of their division
small_div : (i w : ℕ) → i < w → i / w ≡ 0
small_div i w below = let same : 0 * w + i ≡ i = omega arith in sym (ap (λ n. n / w) same) ∙ div-mul-add 0 w i below

small_mod : (i w : ℕ) → i < w → i % w ≡ i
small_mod i w below = let same : 0 * w + i ≡ i = omega arith in sym (ap (λ n. n % w) same) ∙ mod-mul-add 0 w i below

-- and they are those along it
pub run_cell_at : (run : Corners) (index : ℕ) → IsLine (axis_of run) run → index < cell_count_of run
    → cell_of_place run index ≡ cell_along (axis_of run) run index
run_cell_at run index line within = go (run.head.col == run.tail.col) refl
  where
    go : (t : Bool) → (run.head.col == run.tail.col) ≡ t → cell_of_place run index ≡ cell_along (axis_of run) run index
    go true column =
        let cols : run.head.col ≡ run.tail.col = grind (arith, nat_tests, column) in
        let one : width run ≡ 1 = omega (arith, cols) in
        let row : index / width run ≡ index = ap (λ n. index / n) one ∙ grind arith in
        let col : index % width run ≡ 0 = ap (λ n. index % n) one ∙ grind arith in
        let here : run.head.col + 0 ≡ run.head.col = omega arith in
        rw (column, row, col, here) refl
    go false differs =
        let rows : run.head.row ≡ run.tail.row = rw differs at line in
        let below : index < width run = rw differs at within in
        let row : index / width run ≡ 0 = small_div index (width run) below in
        let col : index % width run ≡ index = small_mod index (width run) below in
        let here : run.head.row + 0 ≡ run.head.row = omega arith in
        rw (differs, row, col, here) refl

-- its first cells are filled: an edge has exactly their pairs, and none of them has left the names
pub record FillsFront (axis : Axis) (run : Corners) (reference : Reference) (count : ℕ) (edge : EdgeValue) : Type 0 where
  pub is_edge : IsEdge edge
  pub stays : (index : ℕ) → index < count → IsSome (reference_along axis index reference)
  pub pairs : (range : Corners) (cell : Position) → IsPair edge range cell ↔ IsFilledBelow axis run reference count range cell

some_is : {A : Type 0} (o : Option A) (x : A) → o ≡ Some x → IsSome o
some_is o x is = subst IsSome (sym is) refl

-- what is filled below a count is filled below a greater one
pub below_more : (axis : Axis) (run : Corners) (reference : Reference) (count more : ℕ) (range : Corners) (cell : Position) → count ≤ more
    → IsFilledBelow axis run reference count range cell → IsFilledBelow axis run reference more range cell
below_more axis run reference count more range cell less is = let within = is.within in record {
  index = is.index;
  within = omega (arith, within, less);
  cell_is = is.cell_is;
  moved = is.moved;
  moved_is = is.moved_is;
  range_is = is.range_is;
}

-- the pair of a single cell
pub single_filled : (run : Corners) (reference : Reference) (index count : ℕ) (edge : EdgeValue) → index < count → IsSingleAt run reference index edge
    → (range : Corners) (cell : Position) → IsPair edge range cell → IsFilledBelow (axis_of run) run reference count range cell
single_filled run reference index count edge within is range cell pair =
    let at = (single_pair (cell_along (axis_of run) run index) cell (corners_of is.moved) range).0
    (subst (λ (e : EdgeValue). IsPair e range cell) is.edge_is pair) in
    record { index = index; within = within; cell_is = at.1; moved = is.moved; moved_is = is.moved_is; range_is = at.0 }

pub filled_single : (run : Corners) (reference : Reference) (index : ℕ) (edge : EdgeValue) → IsSingleAt run reference index edge
    → (range : Corners) (cell : Position) (moved : Reference)
    → cell ≡ cell_along (axis_of run) run index → reference_along (axis_of run) index reference ≡ Some moved → range ≡ corners_of moved
    → IsPair edge range cell
filled_single run reference index edge is range cell moved cell_is moved_is range_is =
    let same : moved ≡ is.moved = same_Some moved is.moved (sym moved_is ∙ is.moved_is) in
    subst (λ (e : EdgeValue). IsPair e range cell) (sym is.edge_is)
    ((single_pair (cell_along (axis_of run) run index) cell (corners_of is.moved) range).1 (range_is ∙ ap corners_of same, cell_is))

-- the first cell
pub front_one : (run : Corners) (reference : Reference) (edge : EdgeValue) → IsSingleAt run reference 0 edge → FillsFront (axis_of run) run reference 1 edge
front_one run reference edge is = record {
  is_edge = is.is_edge;
  stays = λ index within. (let first : index ≡ 0 = omega (arith, within) in
      subst (λ n. IsSome (reference_along (axis_of run) n reference)) (sym first) (some_is _ is.moved is.moved_is));
  pairs = λ range cell. (
    single_filled run reference 0 1 edge (omega arith) is range cell,
    λ below.
        (let within = below.within in let first : below.index ≡ 0 = omega (arith, within) in
        filled_single run reference 0 edge is range cell below.moved (below.cell_is ∙ ap (cell_along (axis_of run) run) first)
        (sym (ap (λ n. reference_along (axis_of run) n reference) first) ∙ below.moved_is) below.range_is),
  );
}

-- one more cell
pub front_more : (run : Corners) (reference : Reference) (count : ℕ) (edge next joined : EdgeValue) → FillsFront (axis_of run) run reference count edge
    → IsSingleAt run reference count next → IsJoin edge next joined
    → FillsFront (axis_of run) run reference (count + 1) joined
front_more run reference count edge next joined front single join = record {
  is_edge = join.union.is_edge;
  stays = λ index within. stays index within (cases_eq index count);
  pairs = λ range cell. (to range cell, from range cell);
}
  where
    stays : (index : ℕ) → index < count + 1 → (index ≡ count) ⊎ (index ≡ count → ⊥) → IsSome (reference_along (axis_of run) index reference)
    stays index within (inl last) = subst (λ n. IsSome (reference_along (axis_of run) n reference)) (sym last) (some_is _ single.moved single.moved_is)
    stays index within (inr before) = front.stays index (omega (arith, within, before))

    to : (range : Corners) (cell : Position) → IsPair joined range cell → IsFilledBelow (axis_of run) run reference (count + 1) range cell
    to range cell pair = elim ((join.union.pairs range cell).0 pair) [
      | inl first ↦ below_more (axis_of run) run reference count (count + 1) range cell (omega arith) ((front.pairs range cell).0 first)
      | inr second ↦ single_filled run reference count (count + 1) next (omega arith) single range cell second
    ]

    by : (range : Corners) (cell : Position) → (below : IsFilledBelow (axis_of run) run reference (count + 1) range cell) → (below.index ≡ count)
        ⊎ (below.index ≡ count → ⊥) → IsPair joined range cell
    by range cell below (inl last) =
        (join.union.pairs range cell).1 (inr (filled_single run reference count next single range cell below.moved (below.cell_is
        ∙ ap (cell_along (axis_of run) run) last)
        (sym (ap (λ n. reference_along (axis_of run) n reference) last) ∙ below.moved_is) below.range_is))
    by range cell below (inr before) = let within = below.within in (join.union.pairs range cell).1 (inl ((front.pairs range cell).1 (record {
      index = below.index;
      within = omega (arith, within, before);
      cell_is = below.cell_is;
      moved = below.moved;
      moved_is = below.moved_is;
      range_is = below.range_is;
    })))

    from : (range : Corners) (cell : Position) → IsFilledBelow (axis_of run) run reference (count + 1) range cell → IsPair joined range cell
    from range cell below = by range cell below (cases_eq below.index count)

-- all cells
pub front_all : (run : Corners) (reference : Reference) (edge : EdgeValue) (count : ℕ) → count ≡ cell_count_of run
    → FillsFront (axis_of run) run reference count edge → IsFilledEdge run reference edge
front_all run reference edge count all front =
    let whole : FillsFront (axis_of run) run reference (cell_count_of run) edge = subst (λ n. FillsFront (axis_of run) run reference n edge) all front in
    record { is_edge = whole.is_edge; stays = whole.stays; pairs = whole.pairs }

-- where a cell has left the names there is no such edge
pub none_left : (run : Corners) (reference : Reference) (index : ℕ) (edge : EdgeValue) → index < cell_count_of run
    → reference_along (axis_of run) index reference ≡ None → ¬ IsFilledEdge run reference edge
none_left run reference index edge within none is = absurd (let some = subst IsSome none (is.stays index within) in cc)

pub stays_left : (run : Corners) (reference : Reference) (index : ℕ) → index < cell_count_of run → reference_along (axis_of run) index reference ≡ None
    → ¬ StaysNamed run reference
stays_left run reference index within none stays = absurd (let some = subst IsSome none (stays index within) in cc)

-- the first cells of a run as a rectangle
abbrev front_of : Axis → Corners → ℕ → Corners
front_of axis run count = record { head = cell_along axis run 0; tail = cell_along axis run (count - 1) }

in_front : (axis : Axis) (run : Corners) (count : ℕ) (cell : Position) → 1 ≤ count → IsIn cell (front_of axis run count) → (index : ℕ) × (index < count)
    × (cell ≡ cell_along axis run index)
in_front Down run count cell some here =
    let a = here.row_from in
    let b = here.row_to in
    let c = here.col_from in
    let d = here.col_to in
    let row : cell.row ≡ run.head.row + (cell.row - run.head.row) = omega (arith, a) in
    let col : cell.col ≡ run.head.col = omega (arith, c, d) in
    (cell.row - run.head.row, omega (arith, a, b, some), λ i. record { row = row i; col = col i })
in_front Right run count cell some here =
    let a = here.row_from in
    let b = here.row_to in
    let c = here.col_from in
    let d = here.col_to in
    let row : cell.row ≡ run.head.row = omega (arith, a, b) in
    let col : cell.col ≡ run.head.col + (cell.col - run.head.col) = omega (arith, c) in
    (cell.col - run.head.col, omega (arith, c, d, some), λ i. record { row = row i; col = col i })

front_in : (axis : Axis) (run : Corners) (count index : ℕ) → index < count → IsIn (cell_along axis run index) (front_of axis run count)
front_in Down run count index within = record { row_from = omega arith; row_to = omega (arith, within); col_from = omega arith; col_to = omega arith }
front_in Right run count index within = record { row_from = omega arith; row_to = omega arith; col_from = omega arith; col_to = omega (arith, within) }

front_ordered : (axis : Axis) (run : Corners) (count : ℕ) → IsOrdered (cell_along axis run 0) (cell_along axis run (count - 1))
front_ordered Down run count = record { rows = omega arith; cols = omega arith }
front_ordered Right run count = record { rows = omega arith; cols = omega arith }

-- so the run of the edge is known
pub front_run : (axis : Axis) (run : Corners) (reference : Reference) (count : ℕ) (edge : EdgeValue) → 1 ≤ count → FillsFront axis run reference count edge
    → edge.dep ≡ front_of axis run count
front_run axis run reference count edge some front =
    same_cells edge.dep (front_of axis run count) front.is_edge.dep.ordered (front_ordered axis run count) (λ cell. (to cell, from cell))
  where
    to : (cell : Position) → IsIn cell edge.dep → IsIn cell (front_of axis run count)
    to cell here =
        let (range, pair) = (run_has_ranges edge front.is_edge cell).0 here in
        let below = (front.pairs range cell).0 pair in
        subst (λ (c : Position). IsIn c (front_of axis run count)) (sym below.cell_is) (front_in axis run count below.index below.within)

    named : (cell : Position) (index : ℕ) → index < count → cell ≡ cell_along axis run index → (o : Option Reference)
        → reference_along axis index reference ≡ o → IsSome o → IsIn cell edge.dep
    named cell index within is None none some_of = absurd (cc)
    named cell index within is (Some moved) moved_is some_of =
        (run_has_ranges edge front.is_edge cell).1 (
          corners_of moved,
          (front.pairs (corners_of moved) cell).1
              (record { index = index; within = within; cell_is = is; moved = moved; moved_is = moved_is; range_is = refl }),
        )

    from : (cell : Position) → IsIn cell (front_of axis run count) → IsIn cell edge.dep
    from cell here =
        let (index, within, is) = in_front axis run count cell some here in
        named cell index within is (reference_along axis index reference) refl (front.stays index within)

-- the next cell stands behind the first ones
follows_front : (axis : Axis) (run dep : Corners) (count : ℕ) (rear : Corners) → 1 ≤ count → dep ≡ front_of axis run count
    → rear ≡ record { head = cell_along axis run count; tail = cell_along axis run count } → Follows axis dep rear
follows_front Down run dep count rear some dep_is rear_is =
    let e = ap (λ (r : Corners). r.head.col) dep_is in
    let f = ap (λ (r : Corners). r.tail.col) dep_is in
    let g = ap (λ (r : Corners). r.tail.row) dep_is in
    let h = ap (λ (r : Corners). r.head.col) rear_is in
    let k = ap (λ (r : Corners). r.tail.col) rear_is in
    let m = ap (λ (r : Corners). r.head.row) rear_is in
    record { front_line = e ∙ sym f; rear_line = h ∙ sym k; same_line = e ∙ sym h; next = omega (arith, g, m, some) }
follows_front Right run dep count rear some dep_is rear_is =
    let e = ap (λ (r : Corners). r.head.row) dep_is in
    let f = ap (λ (r : Corners). r.tail.row) dep_is in
    let g = ap (λ (r : Corners). r.tail.col) dep_is in
    let h = ap (λ (r : Corners). r.head.row) rear_is in
    let k = ap (λ (r : Corners). r.tail.row) rear_is in
    let m = ap (λ (r : Corners). r.head.col) rear_is in
    record { front_line = e ∙ sym f; rear_line = h ∙ sym k; same_line = e ∙ sym h; next = omega (arith, g, m, some) }

-- where the run has an edge, its first cells can be joined with the next one
pub front_joins : (run : Corners) (reference : Reference) (count : ℕ) (edge next whole : EdgeValue) → 1 ≤ count → count < cell_count_of run
    → FillsFront (axis_of run) run reference count edge → IsSingleAt run reference count next
    → IsFilledEdge run reference whole → CanBeJoined edge next
front_joins run reference count edge next whole some within front single is =
    joins_within whole edge next is.is_edge front.is_edge single.is_edge
    (λ range cell pair. (is.pairs range cell).1
    (below_more (axis_of run) run reference count (cell_count_of run) range cell (omega (arith, within)) ((front.pairs range cell).0 pair)))
    (λ range cell pair. (is.pairs range cell).1 (single_filled run reference count (cell_count_of run) next within single range cell pair)) (
      axis_of run,
      inl (follows_front (axis_of run) run edge.dep count next.dep some (front_run (axis_of run) run reference count edge some front)
          (ap (λ (e : EdgeValue). e.dep) single.edge_is)),
    )
