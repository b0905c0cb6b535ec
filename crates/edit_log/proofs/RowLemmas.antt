-- The cells of vertical runs as places of a rectangle: each once, and in order when they are sorted.
use Rattle.std.proofs.Common.{◌≡◌, ◌≢◌, inl, inr, ℕ, suc, ◌+◌, ◌*◌, ◌/◌, ◌%◌, ◌<◌, List, [], ◌∷◌, ◌++◌, map, take}
use Rattle.std.proofs.Common.{length, get_or, slice_get, Some, option_map, IsTrue, Contains, All, eqb, arith, refl, sym}
use Rattle.std.proofs.Common.{ap, subst, ◌∙◌}
use Rattle.std.specs.Prelude.{AllPairs, flat_map}
use Rattle.std.specs.List.{IsDistinct}
use Rattle.std.specs.List.Sorted.{IsPermutation, IsSorted, IsStrictlyIncreasing}
use Rattle.std.specs.Ordering.{nat_cmp}
use Rattle.std.proofs.Math.Seq.{take-suc}
use Rattle.std.proofs.lemmas.Bool.Decides.{Decides-eqb, nat_tests}
use Rattle.std.proofs.lemmas.List.{append_assoc, map-append, length-map}
use Rattle.std.proofs.lemmas.List.Elements.{All-push}
use Rattle.std.proofs.lemmas.List.Sorted.{Contains-permutation, IsPermutation-sym, IsNonDecreasingBy-from_sort}
use Rattle.std.proofs.lemmas.Map.Keys.{IsDistinct-IsPermutation, IsStrictlyIncreasing-from_distinct}
use Rattle.std.proofs.lemmas.Map.Made.{IsDistinct-from_AllPairs}
use Rattle.std.proofs.lemmas.Option.{get_or_from_slice_get, slice_get_within, slice_get-map}
use Rattle.sheet_refs.specs.Cells.{Position, Corners, IsIn, IsOrdered, cells_of, width}
use Rattle.sheet_refs.specs.Rectangles.{IsAmong, IsVertical, IsBefore, AreMaximalRuns}
use Rattle.sheet_refs.specs.Sizes.{is_inside, place_of, cell_count, cell_of_place}
use Rattle.sheet_refs.specs.declared.sizes.Sizes.{Sizes}
use Rattle.sheet_refs.proofs.Grid.{cells_listed}
use Rattle.sheet_refs.proofs.Places.{place-lt, place_same, range_place, place_inside}
use Rattle.edit_log.specs.Rows.{run_places, IsInside, LieInside, AreCellsAt}
use Rattle.edit_log.specs.Touches.{ListsRowByRow}
use Rattle.sheet_model.proofs.ListMembers.{all_from, first_member, later_member, mapped_from, mapped_to, joined_from, joined_to, pairs_append}

-- one place more
pub places_more : (sizes : Sizes) (cells : List Position) (k : ℕ) (cell : Position) (old now : List ℕ) (place : ℕ)
    → now ≡ old ++ map (place_of sizes) (take k cells) → slice_get cells k ≡ Some cell → place ≡ place_of sizes cell
    → now ++ place ∷ [] ≡ old ++ map (place_of sizes) (take (k + 1) cells)
places_more sizes cells k cell old now place so_far at is =
    let more : k + 1 ≡ suc k = omega arith in
    let here : get_or cells k cell ≡ cell = get_or_from_slice_get cells k cell cell at in
    ap (λ ps. ps ++ place ∷ []) so_far
    ∙ append_assoc old (map (place_of sizes) (take k cells)) (place ∷ [])
    ∙ ap (λ p. old ++ (map (place_of sizes) (take k cells) ++ p ∷ [])) is
    ∙ ap (λ ps. old ++ ps) (sym (rw (
      more,
      take-suc cells k cell (slice_get_within cells k cell at),
      here,
    ) (map-append (place_of sizes) (take k cells) (cell ∷ []))))

-- one cell more
pub cells_more : (sizes : Sizes) (places : List ℕ) (k d : ℕ) (cells : List Position) (cell : Position)
    → AreCellsAt sizes (take k places) cells → k < length places → place_of sizes cell ≡ get_or places k d
    → IsTrue (is_inside sizes cell) → AreCellsAt sizes (take (k + 1) places) (cells ++ cell ∷ [])
cells_more sizes places k d cells cell so_far below is inside =
    let more : k + 1 ≡ suc k = omega arith in
    record {
      places_are =
          map-append (place_of sizes) cells (cell ∷ [])
          ∙ ap (λ ps. ps ++ place_of sizes cell ∷ []) so_far.places_are
          ∙ ap (λ p. take k places ++ p ∷ []) is
          ∙ sym (rw more (take-suc places k d below));
      inside = All-push (λ c. IsTrue (is_inside sizes c)) cells cell so_far.inside inside;
    }

-- one run more
pub runs_more : {A B : Type 0} (f : A → List B) (xs : List A) (k : ℕ) (x : A) (now : List B)
    → now ≡ flat_map f (take k xs) → k < length xs → x ≡ get_or xs k x → now ++ f x ≡ flat_map f (take (k + 1) xs)
runs_more {A} {B} f xs k x now so_far below at =
    let more : k + 1 ≡ suc k = omega arith in
    ap (λ ys. ys ++ f x) so_far ∙ sym (rw (more, take-suc xs k x below, ← at) (joined (take k xs)))
  where
    joined : (ys : List A) → flat_map f (ys ++ x ∷ []) ≡ flat_map f ys ++ f x
    joined [] = append-nil-right (f x)
      where
        append-nil-right : (zs : List B) → zs ++ [] ≡ zs
        append-nil-right [] = refl
        append-nil-right (z ∷ zs) = ap (λ ws. z ∷ ws) (append-nil-right zs)
    joined (y ∷ ys) = ap (λ zs. f y ++ zs) (joined ys) ∙ sym (append_assoc (f y) (flat_map f ys) (f x))

-- a vertical run as a range
ordered_run : (run : Corners) → IsVertical run → IsOrdered run.head run.tail
ordered_run run vertical = record { rows = vertical.ordered; cols = (let same = vertical.one_column in omega (arith, same)) }

-- the places of a run's cells differ
same_index : (w i j : ℕ) → i / w ≡ j / w → i % w ≡ j % w → i ≡ j
same_index w i j quotient rest =
    let left : i / w * w + i % w ≡ i = grind arith in
    let right : j / w * w + j % w ≡ j = grind arith in
    sym left ∙ ap (λ q. q * w + i % w) quotient ∙ ap (λ r. j / w * w + r) rest ∙ right

run_differs : (sizes : Sizes) (run : Corners) → IsVertical run → IsInside sizes run → AllPairs (λ a b. a ≢ b) (run_places sizes run)
run_differs sizes run vertical inside i j d lt within =
    let ordered = ordered_run run vertical in
    let count : length (run_places sizes run) ≡ length (cells_of run) = length-map (cells_of run) (place_of sizes) in
    let j_lt : j < length (cells_of run) = omega (arith, within, count) in
    let i_lt : i < length (cells_of run) = omega (arith, j_lt, lt) in
    let at_i : get_or (run_places sizes run) i d ≡ place_of sizes (cell_of_place run i) = number_at i (range_place run i i_lt).cell in
    let at_j : get_or (run_places sizes run) j d ≡ place_of sizes (cell_of_place run j) = number_at j (range_place run j j_lt).cell in
    λ same.
    let cells = place_same sizes (cell_of_place run i) (cell_of_place run j)
    (inside (cell_of_place run i) (place_inside run i ordered i_lt))
    (inside (cell_of_place run j) (place_inside run j ordered j_lt)) (sym at_i ∙ same ∙ at_j) in
    let rows : run.head.row + i / width run ≡ run.head.row + j / width run = ap (λ (c : Position). c.row) cells in
    let cols : run.head.col + i % width run ≡ run.head.col + j % width run = ap (λ (c : Position). c.col) cells in
    let one : i ≡ j = same_index (width run) i j (omega (arith, rows)) (omega (arith, cols)) in
    absurd (omega (arith, lt, one))
  where
    number_at : (k : ℕ) → slice_get (cells_of run) k ≡ Some (cell_of_place run k) → get_or (run_places sizes run) k d ≡ place_of sizes (cell_of_place run k)
    number_at k at = get_or_from_slice_get (run_places sizes run) k (place_of sizes (cell_of_place run k)) d
        (slice_get-map (place_of sizes) (cells_of run) k ∙ ap (option_map (place_of sizes)) at)

-- a place of a run is that of one of its cells
cell_there : (sizes : Sizes) (run : Corners) (place : ℕ) → IsVertical run → Contains (run_places sizes run) place
    → (cell : Position) × IsIn cell run × (place_of sizes cell ≡ place)
cell_there sizes run place vertical there =
    let from = mapped_from (place_of sizes) (cells_of run) place there in
    (from.0, (cells_listed run (ordered_run run vertical) from.0).0 from.1, from.2)

-- a run that stands before another has none of its cells
apart : (a b : Corners) (cell : Position) → IsVertical a → IsVertical b → IsBefore a b → IsIn cell a → IsIn cell b → ⊥
apart a b cell a_is b_is (inl left) in_a in_b = absurd (omega (arith, left, in_a.col_to, in_b.col_from))
apart a b cell a_is b_is (inr above) in_a in_b = absurd (omega (arith, above.1, in_a.row_to, in_b.row_from))

-- the places of all runs differ
pub runs_differ : (sizes : Sizes) (runs : List Corners) → AreMaximalRuns runs → LieInside sizes runs
    → AllPairs (λ a b. a ≢ b) (flat_map (run_places sizes) runs)
runs_differ sizes [] are inside = λ i j d lt within. absurd (omega (arith, within))
runs_differ sizes (run ∷ runs) are inside =
    pairs_append (λ a b. a ≢ b) (run_places sizes run) (flat_map (run_places sizes) runs)
    (run_differs sizes run first_vertical first_inside)
    (runs_differ sizes runs (record {
      vertical = λ k d within. are.vertical (suc k) d (omega (arith, within));
      in_order = λ i j d lt within. are.in_order (suc i) (suc j) d (omega (arith, lt)) (omega (arith, within));
    }) (λ cell among. inside cell (record { range = among.range; listed = later_member run among.range runs among.listed; inside = among.inside })))
    crosses
  where
    first_vertical : IsVertical run
    first_vertical = are.vertical 0 run (omega arith)

    first_inside : IsInside sizes run
    first_inside cell here = inside cell (record { range = run; listed = first_member run runs; inside = here })

    crosses : (x y : ℕ) → Contains (run_places sizes run) x → Contains (flat_map (run_places sizes) runs) y → x ≢ y
    crosses x y x_in y_in same =
        let later = joined_from (run_places sizes) runs y y_in in
        let k = later.1.0 in
        let k_lt = later.1.1 in
        let at : get_or runs k later.0 ≡ later.0 = later.1.2 in
        let vertical : IsVertical later.0 = subst IsVertical at (are.vertical (suc k) later.0 (omega (arith, k_lt))) in
        let before : IsBefore run later.0 = subst (λ r. IsBefore run r) at (are.in_order 0 (suc k) later.0 (omega arith) (omega (arith, k_lt))) in
        let a = cell_there sizes run x first_vertical x_in in
        let b = cell_there sizes later.0 y vertical later.2 in
        let b_inside = inside b.0 (record { range = later.0; listed = later_member run later.0 runs later.1; inside = b.1 }) in
        let one : a.0 ≡ b.0 = place_same sizes a.0 b.0 (first_inside a.0 a.1) b_inside (a.2 ∙ same ∙ sym b.2) in
        apart run later.0 b.0 first_vertical vertical before (subst (λ (c : Position). IsIn c run) one a.1) b.1

-- and are places of the rectangle
pub places_within : (sizes : Sizes) (runs : List Corners) → AreMaximalRuns runs → LieInside sizes runs
    → All (λ place. place < cell_count sizes) (flat_map (run_places sizes) runs)
places_within sizes runs are inside = all_from (λ place. place < cell_count sizes) (flat_map (run_places sizes) runs) within
  where
    within : (place : ℕ) → Contains (flat_map (run_places sizes) runs) place → place < cell_count sizes
    within place there =
        let run = joined_from (run_places sizes) runs place there in
        let k = run.1.0 in
        let vertical : IsVertical run.0 = subst IsVertical run.1.2 (are.vertical k run.0 run.1.1) in
        let cell = cell_there sizes run.0 place vertical run.2 in
        subst (λ p. p < cell_count sizes) cell.2 (place-lt sizes cell.0 (inside cell.0 (record { range = run.0; listed = run.1; inside = cell.1 })))

-- the cells at the sorted places of the runs are those of the runs, row by row
pub listed_rows : (sizes : Sizes) (runs : List Corners) (places sorted : List ℕ) (cells : List Position)
    → AreMaximalRuns runs → LieInside sizes runs → places ≡ flat_map (run_places sizes) runs
    → IsPermutation places sorted → IsSorted nat_cmp sorted → AreCellsAt sizes sorted cells
    → ListsRowByRow sizes cells (IsAmong runs)
listed_rows sizes runs places sorted cells are inside places_are moved is_sorted cells_are = record {
  exact = λ cell. (from_list cell, to_list cell);
  order = subst IsStrictlyIncreasing (sym cells_are.places_are) rising;
}
  where
    distinct : IsDistinct eqb places
    distinct = IsDistinct-from_AllPairs Decides-eqb places (subst (AllPairs (λ a b. a ≢ b)) (sym places_are) (runs_differ sizes runs are inside))

    rising : IsStrictlyIncreasing sorted
    rising = IsStrictlyIncreasing-from_distinct sorted (IsNonDecreasingBy-from_sort (λ x. x) sorted is_sorted)
        (IsDistinct-IsPermutation eqb (λ x y. flips x y) places sorted moved distinct)
      where
        flips : (x y : ℕ) → eqb x y ≡ eqb y x
        flips x y = grind (arith, nat_tests)

    cell_inside : (cell : Position) → Contains cells cell → IsTrue (is_inside sizes cell)
    cell_inside cell (k, below, at) = subst (λ (c : Position). IsTrue (is_inside sizes c)) at (cells_are.inside k cell below)

    vertical_at : (run : Corners) → Contains runs run → IsVertical run
    vertical_at run (k, below, at) = subst IsVertical at (are.vertical k run below)

    from_list : (cell : Position) → Contains cells cell → IsAmong runs cell
    from_list cell there =
        let in_sorted : Contains sorted (place_of sizes cell) =
        subst (λ (ps : List ℕ). Contains ps (place_of sizes cell)) cells_are.places_are
        (mapped_to (place_of sizes) cells cell there) in
        let in_places : Contains (flat_map (run_places sizes) runs) (place_of sizes cell) =
        subst (λ (ps : List ℕ). Contains ps (place_of sizes cell)) places_are
        (Contains-permutation sorted places (place_of sizes cell) (IsPermutation-sym places sorted moved) in_sorted)
        in
        let run = joined_from (run_places sizes) runs (place_of sizes cell) in_places in
        let found = cell_there sizes run.0 (place_of sizes cell) (vertical_at run.0 run.1) run.2 in
        let found_inside = inside found.0 (record { range = run.0; listed = run.1; inside = found.1 }) in
        let one : found.0 ≡ cell = place_same sizes found.0 cell found_inside (cell_inside cell there) found.2 in
        record { range = run.0; listed = run.1; inside = subst (λ (c : Position). IsIn c run.0) one found.1 }

    to_list : (cell : Position) → IsAmong runs cell → Contains cells cell
    to_list cell among =
        let in_run : Contains (cells_of among.range) cell =
        (cells_listed among.range (ordered_run among.range (vertical_at among.range among.listed)) cell).1
        among.inside in
        let in_places : Contains places (place_of sizes cell) =
        subst (λ (ps : List ℕ). Contains ps (place_of sizes cell)) (sym places_are)
        (joined_to (run_places sizes) runs among.range (place_of sizes cell) among.listed
        (mapped_to (place_of sizes) (cells_of among.range) cell in_run)) in
        let in_sorted : Contains (map (place_of sizes) cells) (place_of sizes cell) =
        subst (λ (ps : List ℕ). Contains ps (place_of sizes cell)) (sym cells_are.places_are)
        (Contains-permutation places sorted (place_of sizes cell) moved in_places) in
        let found = mapped_from (place_of sizes) cells (place_of sizes cell) in_sorted in
        let one : found.0 ≡ cell = place_same sizes found.0 cell (cell_inside found.0 found.1) (inside cell among) found.2 in
        subst (λ (c : Position). Contains cells c) one found.1
