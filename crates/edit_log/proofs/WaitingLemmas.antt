-- Pairs that are there or whose cells wait: how both change, and that in the end all are there.
use Rattle.std.proofs.Common.{◌≡◌, ◌≢◌, ◌↔◌, ◌⊎◌, inl, inr, ◌<◌, ◌+◌, ℕ, suc, Bool, true, false, List, [], ◌∷◌, ◌++◌, length, take, get_or, Contains, IsTrue}
use Rattle.std.proofs.Common.{arith, refl, sym, ap, subst, ◌∙◌}
use Rattle.std.specs.List.Sorted.{IsPermutation}
use Rattle.std.proofs.Math.Seq.{take-suc}
use Rattle.std.proofs.lemmas.Bool.{cases_eq}
use Rattle.std.proofs.lemmas.List.Elements.{All-push, Contains-append_left, Contains-push, Contains-push_cases}
use Rattle.std.proofs.lemmas.List.Sorted.{Contains-permutation, IsPermutation-sym}
use Rattle.sheet_refs.specs.Cells.{Position, Corners}
use Rattle.sheet_refs.specs.Sizes.{cell_count, is_inside, place_of}
use Rattle.sheet_refs.proofs.Places.{place_same}
use Rattle.formula_syntax.specs.Listing.{IsOnceEach}
use Rattle.formula_syntax.proofs.Listings.{once_all, once_back}
use Rattle.graph_walk.specs.Graphs.{Pair, Replaces}
use Rattle.graph_walk.specs.Series.{AddsRun, IsOfRun, LackRun}
use Rattle.sheet_model.specs.Ranges.{ranges_in}
use Rattle.sheet_model.specs.Sheets.{SheetValue, content_of}
use Rattle.sheet_model.proofs.ListMembers.{no_member}
use Rattle.edit_log.specs.Pairs.{IsPairOf, ArePairsOf, HasNoPairs}
use Rattle.edit_log.specs.Runs.{IsRunOf, cells_down, series_of}
use Rattle.edit_log.specs.Waiting.{AddsPairsAt, AreInside, AreOfSheet, AreThereOrWait, AreThoseBefore, HasPairsBefore, HaveNoPlaces, IsPairAt, IsThereOrWaits}
use Rattle.edit_log.specs.declared.waiting.Waiting.{Waiting}
use Rattle.edit_log.proofs.RunLemmas.{same_end}
use Rattle.edit_log.proofs.PairLemmas.{all_before, cell_more, column_ends, none_before, nothing_added, run_added, run_lacks}

-- the cell of a pair lies in the sheet
pair_named : (sheet : SheetValue) (pair : Pair) → IsPairOf sheet pair → IsTrue (is_inside sheet.sizes pair.cell)
pair_named sheet pair is = by_test (is_inside sheet.sizes pair.cell) refl
  where
    by_test : (b : Bool) → is_inside sheet.sizes pair.cell ≡ b → IsTrue (is_inside sheet.sizes pair.cell)
    by_test true e = e
    by_test false e = absurd (no_member pair.range (rw e at is))

-- and is the one at its place
cell_at_place : (sheet : SheetValue) (cell : Position) (pair : Pair) → IsTrue (is_inside sheet.sizes cell) → IsPairOf sheet pair
    → place_of sheet.sizes cell ≡ place_of sheet.sizes pair.cell → pair.cell ≡ cell
cell_at_place sheet cell pair inside is same = sym (place_same sheet.sizes cell pair.cell inside (pair_named sheet pair is) same)

-- one place more
pub place_more : (sheet : SheetValue) (places : List ℕ) (cell : Position) (pair : Pair) → IsTrue (is_inside sheet.sizes cell)
    → IsPairAt sheet (places ++ place_of sheet.sizes cell ∷ []) pair ↔ (IsPairAt sheet places pair ⊎ ((pair.cell ≡ cell) × IsPairOf sheet pair))
place_more sheet places cell pair inside =
    (λ at. onward at.1 (Contains-push_cases places (place_of sheet.sizes cell) (place_of sheet.sizes pair.cell) at.0), back)
  where
    onward : IsPairOf sheet pair → Contains places (place_of sheet.sizes pair.cell) ⊎ (place_of sheet.sizes cell ≡ place_of sheet.sizes pair.cell)
        → IsPairAt sheet places pair ⊎ ((pair.cell ≡ cell) × IsPairOf sheet pair)
    onward is (inl there) = inl (there, is)
    onward is (inr same) = inr (cell_at_place sheet cell pair inside is same, is)

    back : IsPairAt sheet places pair ⊎ ((pair.cell ≡ cell) × IsPairOf sheet pair) → IsPairAt sheet (places ++ place_of sheet.sizes cell ∷ []) pair
    back (inl at) = (Contains-append_left places (place_of sheet.sizes cell ∷ []) (place_of sheet.sizes pair.cell) at.0, at.1)
    back (inr own) = (
      subst (λ (c : Position). Contains (places ++ place_of sheet.sizes cell ∷ []) (place_of sheet.sizes c)) (sym own.0)
          (Contains-push places (place_of sheet.sizes cell)),
      own.1,
    )

-- a cell comes to those that wait
module _ (sheet : SheetValue) (cell : Position) (pairs : List Pair) (across alone : List ℕ) (inside : IsTrue (is_inside sheet.sizes cell))
    (pair : Pair) where
  pub more_across : IsThereOrWaits sheet pairs (across ++ place_of sheet.sizes cell ∷ []) alone pair
      ↔ (IsThereOrWaits sheet pairs across alone pair ⊎ ((pair.cell ≡ cell) × IsPairOf sheet pair))
  more_across = (onward, back)
    where
      from_places : IsPairAt sheet across pair ⊎ ((pair.cell ≡ cell) × IsPairOf sheet pair)
          → IsThereOrWaits sheet pairs across alone pair ⊎ ((pair.cell ≡ cell) × IsPairOf sheet pair)
      from_places (inl at) = inl (inr (inl at))
      from_places (inr own) = inr own

      onward : IsThereOrWaits sheet pairs (across ++ place_of sheet.sizes cell ∷ []) alone pair
          → IsThereOrWaits sheet pairs across alone pair ⊎ ((pair.cell ≡ cell) × IsPairOf sheet pair)
      onward (inl there) = inl (inl there)
      onward (inr (inl at)) = from_places ((place_more sheet across cell pair inside).0 at)
      onward (inr (inr at)) = inl (inr (inr at))

      back : IsThereOrWaits sheet pairs across alone pair ⊎ ((pair.cell ≡ cell) × IsPairOf sheet pair)
          → IsThereOrWaits sheet pairs (across ++ place_of sheet.sizes cell ∷ []) alone pair
      back (inl (inl there)) = inl there
      back (inl (inr (inl at))) = inr (inl ((place_more sheet across cell pair inside).1 (inl at)))
      back (inl (inr (inr at))) = inr (inr at)
      back (inr own) = inr (inl ((place_more sheet across cell pair inside).1 (inr own)))

  pub more_alone : IsThereOrWaits sheet pairs across (alone ++ place_of sheet.sizes cell ∷ []) pair
      ↔ (IsThereOrWaits sheet pairs across alone pair ⊎ ((pair.cell ≡ cell) × IsPairOf sheet pair))
  more_alone = (onward, back)
    where
      from_places : IsPairAt sheet alone pair ⊎ ((pair.cell ≡ cell) × IsPairOf sheet pair)
          → IsThereOrWaits sheet pairs across alone pair ⊎ ((pair.cell ≡ cell) × IsPairOf sheet pair)
      from_places (inl at) = inl (inr (inr at))
      from_places (inr own) = inr own

      onward : IsThereOrWaits sheet pairs across (alone ++ place_of sheet.sizes cell ∷ []) pair
          → IsThereOrWaits sheet pairs across alone pair ⊎ ((pair.cell ≡ cell) × IsPairOf sheet pair)
      onward (inl there) = inl (inl there)
      onward (inr (inl at)) = inl (inr (inl at))
      onward (inr (inr at)) = from_places ((place_more sheet alone cell pair inside).0 at)

      back : IsThereOrWaits sheet pairs across alone pair ⊎ ((pair.cell ≡ cell) × IsPairOf sheet pair)
          → IsThereOrWaits sheet pairs across (alone ++ place_of sheet.sizes cell ∷ []) pair
      back (inl (inl there)) = inl there
      back (inl (inr (inl at))) = inr (inl at)
      back (inl (inr (inr at))) = inr (inr ((place_more sheet alone cell pair inside).1 (inl at)))
      back (inr own) = inr (inr ((place_more sheet alone cell pair inside).1 (inr own)))

-- a run comes to the graph
pub more_there : (sheet : SheetValue) (old new : List Pair) (across alone : List ℕ) (Own : Pair → Type 0)
    → ((pair : Pair) → Contains new pair ↔ (Own pair ⊎ Contains old pair)) → (pair : Pair)
    → IsThereOrWaits sheet new across alone pair ↔ (Own pair ⊎ IsThereOrWaits sheet old across alone pair)
more_there sheet old new across alone Own adds pair = (onward, back)
  where
    from_pairs : Own pair ⊎ Contains old pair → Own pair ⊎ IsThereOrWaits sheet old across alone pair
    from_pairs (inl own) = inl own
    from_pairs (inr there) = inr (inl there)

    onward : IsThereOrWaits sheet new across alone pair → Own pair ⊎ IsThereOrWaits sheet old across alone pair
    onward (inl there) = from_pairs ((adds pair).0 there)
    onward (inr waits) = inr (inr waits)

    back : Own pair ⊎ IsThereOrWaits sheet old across alone pair → IsThereOrWaits sheet new across alone pair
    back (inl own) = inl ((adds pair).1 (inl own))
    back (inr (inl there)) = inl ((adds pair).1 (inr there))
    back (inr (inr waits)) = inr waits

-- at first none is there, and none waits
pub none_yet : (sheet : SheetValue) (pairs : List Pair) (waiting : Waiting) → HasNoPairs pairs → HaveNoPlaces waiting → HasPairsBefore sheet 1 1 pairs waiting
none_yet sheet pairs waiting none empty = record {
  each = none_before sheet (IsThereOrWaits sheet pairs waiting.across.items waiting.alone.items) neither;
  across = subst (AreInside sheet) (sym empty.across) no_places;
  alone = subst (AreInside sheet) (sym empty.alone) no_places;
}
  where
    no_places : AreInside sheet []
    no_places k d within = absurd (omega (arith, within))

    not_at : (places : List ℕ) → places ≡ [] → (pair : Pair) → ¬ IsPairAt sheet places pair
    not_at places are pair at = no_member (place_of sheet.sizes pair.cell) (rw are at at.0)

    neither : (pair : Pair) → ¬ IsThereOrWaits sheet pairs waiting.across.items waiting.alone.items pair
    neither pair (inl there) = none pair there
    neither pair (inr (inl at)) = not_at waiting.across.items empty.across pair at
    neither pair (inr (inr at)) = not_at waiting.alone.items empty.alone pair at

-- past the last row of a column, and past the last column
pub column_done : (sheet : SheetValue) (col row : ℕ) (pairs : List Pair) (waiting : Waiting) → sheet.sizes.rows < row
    → HasPairsBefore sheet col row pairs waiting → HasPairsBefore sheet (col + 1) 1 pairs waiting
column_done sheet col row pairs waiting past before = record {
  each = column_ends sheet col row (IsThereOrWaits sheet pairs waiting.across.items waiting.alone.items) past before.each;
  across = before.across;
  alone = before.alone;
}

pub all_done : (sheet : SheetValue) (col : ℕ) (pairs : List Pair) (waiting : Waiting) → sheet.sizes.cols < col
    → HasPairsBefore sheet col 1 pairs waiting → AreThereOrWait sheet pairs waiting
all_done sheet col pairs waiting past before = record {
  each = all_before sheet col (IsThereOrWaits sheet pairs waiting.across.items waiting.alone.items) past before.each;
  across = before.across;
  alone = before.alone;
}

-- the pairs before a cell, by its row and its column, and those before the cell to which it goes on
pub pairs_at : (sheet : SheetValue) (cell : Position) (row col : ℕ) (pairs : List Pair) (waiting : Waiting) → cell.row ≡ row → cell.col ≡ col
    → HasPairsBefore sheet col row pairs waiting → HasPairsBefore sheet cell.col cell.row pairs waiting
pairs_at sheet cell row col pairs waiting row_is col_is before =
    subst (λ r. HasPairsBefore sheet cell.col r pairs waiting) (sym row_is)
    (subst (λ c. HasPairsBefore sheet c row pairs waiting) (sym col_is) before)

pub column_on : (sheet : SheetValue) (cell : Position) (row col : ℕ) (pairs : List Pair) (waiting : Waiting) (count : ℕ)
    → cell.row ≡ row → cell.col ≡ col
    → HasPairsBefore sheet cell.col (cell.row + count) pairs waiting → HasPairsBefore sheet col (row + count) pairs waiting
column_on sheet cell row col pairs waiting count row_is col_is before =
    subst (λ r. HasPairsBefore sheet col (r + count) pairs waiting) row_is
    (subst (λ c. HasPairsBefore sheet c (cell.row + count) pairs waiting) col_is before)

-- the pairs of a graph are there
pub waiting_lacks : (sheet : SheetValue) (cell : Position) (count : ℕ) (pairs : List Pair) (waiting : Waiting)
    → HasPairsBefore sheet cell.col cell.row pairs waiting → LackRun pairs (cells_down cell count)
waiting_lacks sheet cell count pairs waiting before =
    run_lacks sheet cell count pairs (IsThereOrWaits sheet pairs waiting.across.items waiting.alone.items) (λ pair there. inl there) before.each

-- a cell comes to those that go on to the right, or to those that no cell goes on with
pub cell_across : (sheet : SheetValue) (cell : Position) (pairs : List Pair) (old new : Waiting) → IsTrue (is_inside sheet.sizes cell)
    → place_of sheet.sizes cell < cell_count sheet.sizes → new.across.items ≡ old.across.items ++ place_of sheet.sizes cell ∷ []
    → new.alone ≡ old.alone → HasPairsBefore sheet cell.col cell.row pairs old → HasPairsBefore sheet cell.col (cell.row + 1) pairs new
cell_across sheet cell pairs old new inside below put same before = record {
  each =
      subst (λ (places : List ℕ). AreThoseBefore sheet cell.col (cell.row + 1) (IsThereOrWaits sheet pairs places new.alone.items)) (sym put)
      (subst (λ (places : List ℕ). AreThoseBefore sheet cell.col (cell.row + 1)
      (IsThereOrWaits sheet pairs (old.across.items ++ place_of sheet.sizes cell ∷ []) places)) (ap (λ v. v.items) (sym same))
      (cell_more sheet cell (IsThereOrWaits sheet pairs old.across.items old.alone.items)
      (IsThereOrWaits sheet pairs (old.across.items ++ place_of sheet.sizes cell ∷ []) old.alone.items) before.each
      (more_across sheet cell pairs old.across.items old.alone.items inside)));
  across =
      subst (AreInside sheet) (sym put)
      (All-push (λ place. place < cell_count sheet.sizes) old.across.items (place_of sheet.sizes cell) before.across below);
  alone = subst (λ v. AreInside sheet v.items) (sym same) before.alone;
}

pub cell_alone : (sheet : SheetValue) (cell : Position) (pairs : List Pair) (old new : Waiting) → IsTrue (is_inside sheet.sizes cell)
    → place_of sheet.sizes cell < cell_count sheet.sizes → new.alone.items ≡ old.alone.items ++ place_of sheet.sizes cell ∷ []
    → new.across ≡ old.across → HasPairsBefore sheet cell.col cell.row pairs old → HasPairsBefore sheet cell.col (cell.row + 1) pairs new
cell_alone sheet cell pairs old new inside below put same before = record {
  each =
      subst (λ (places : List ℕ). AreThoseBefore sheet cell.col (cell.row + 1) (IsThereOrWaits sheet pairs new.across.items places)) (sym put)
      (subst (λ (places : List ℕ). AreThoseBefore sheet cell.col (cell.row + 1)
      (IsThereOrWaits sheet pairs places (old.alone.items ++ place_of sheet.sizes cell ∷ []))) (ap (λ v. v.items) (sym same))
      (cell_more sheet cell (IsThereOrWaits sheet pairs old.across.items old.alone.items)
      (IsThereOrWaits sheet pairs old.across.items (old.alone.items ++ place_of sheet.sizes cell ∷ [])) before.each
      (more_alone sheet cell pairs old.across.items old.alone.items inside)));
  across = subst (λ v. AreInside sheet v.items) (sym same) before.across;
  alone =
      subst (AreInside sheet) (sym put)
      (All-push (λ place. place < cell_count sheet.sizes) old.alone.items (place_of sheet.sizes cell) before.alone below);
}

-- a run of cells has come, or one without pairs
pub run_waiting : (sheet : SheetValue) (cell : Position) (count : ℕ) (firsts lasts : List Corners) (old new : List Pair) (waiting : Waiting)
    → IsRunOf sheet cell count firsts lasts → HasPairsBefore sheet cell.col cell.row old waiting
    → AddsRun old new (cells_down cell count) (series_of firsts lasts) → HasPairsBefore sheet cell.col (cell.row + count) new waiting
run_waiting sheet cell count firsts lasts old new waiting run before adds = record {
  each =
      run_added sheet cell count firsts lasts (IsThereOrWaits sheet old waiting.across.items waiting.alone.items)
      (IsThereOrWaits sheet new waiting.across.items waiting.alone.items) run before.each
      (more_there sheet old new waiting.across.items waiting.alone.items (IsOfRun (cells_down cell count) (series_of firsts lasts)) adds);
  across = before.across;
  alone = before.alone;
}

pub nothing_waiting : (sheet : SheetValue) (cell : Position) (count : ℕ) (firsts lasts : List Corners) (pairs : List Pair) (waiting : Waiting)
    → length firsts ≡ 0 → IsRunOf sheet cell count firsts lasts → HasPairsBefore sheet cell.col cell.row pairs waiting
    → HasPairsBefore sheet cell.col (cell.row + count) pairs waiting
nothing_waiting sheet cell count firsts lasts pairs waiting none run before = record {
  each = nothing_added sheet cell count firsts lasts (IsThereOrWaits sheet pairs waiting.across.items waiting.alone.items) none run before.each;
  across = before.across;
  alone = before.alone;
}

-- no place has no pair
pub none_at : (sheet : SheetValue) (pairs : List Pair) → AddsPairsAt sheet [] pairs pairs
none_at sheet pairs pair = (λ there. inl there, back)
  where
    back : Contains pairs pair ⊎ IsPairAt sheet [] pair → Contains pairs pair
    back (inl there) = there
    back (inr at) = absurd (no_member (place_of sheet.sizes pair.cell) at.0)

-- pairs of a sheet stay so
pub still_of_sheet : (sheet : SheetValue) (places : List ℕ) (old new : List Pair)
    → AreOfSheet sheet old → AddsPairsAt sheet places old new → AreOfSheet sheet new
still_of_sheet sheet places old new of adds pair there = either ((adds pair).0 there)
  where
    either : Contains old pair ⊎ IsPairAt sheet places pair → IsPairOf sheet pair
    either (inl was) = of pair was
    either (inr at) = at.1

-- a cell gets its pairs
pub adds_cell : (sheet : SheetValue) (places : List ℕ) (cell : Position) (old now new : List Pair) (refs : List Corners)
    → IsTrue (is_inside sheet.sizes cell) → AreOfSheet sheet old → AddsPairsAt sheet places old now
    → IsOnceEach (ranges_in (content_of sheet cell)) refs → Replaces now new cell refs
    → AddsPairsAt sheet (places ++ place_of sheet.sizes cell ∷ []) old new
adds_cell sheet places cell old now new refs inside of adds once replaced pair =
    (λ there. from_new ((replaced pair).0 there), λ either. to_new either)
  where
    At : Type 0
    At = IsPairAt sheet (places ++ place_of sheet.sizes cell ∷ []) pair

    named : Position → List Corners
    named c = ranges_in (content_of sheet c)

    kept : Contains old pair ⊎ IsPairAt sheet places pair → Contains old pair ⊎ At
    kept (inl was) = inl was
    kept (inr at) = inr ((place_more sheet places cell pair inside).1 (inl at))

    from_new : ((pair.cell ≡ cell) × Contains refs pair.range) ⊎ ((pair.cell ≢ cell) × Contains now pair) → Contains old pair ⊎ At
    from_new (inl own) = inr ((place_more sheet places cell pair inside).1 (inr (
      own.0,
      subst (λ (c : Position). Contains (named c) pair.range) (sym own.0) (once_back (named cell) refs pair.range once own.1),
    )))
    from_new (inr other) = kept ((adds pair).0 other.1)

    own_pair : pair.cell ≡ cell → IsPairOf sheet pair → Contains new pair
    own_pair same is =
        (replaced pair).1 (inl (same, once_all (named cell) refs pair.range once (subst (λ (c : Position). Contains (named c) pair.range) same is)))

    either_cell : (now_there : Contains now pair) → IsPairOf sheet pair → (pair.cell ≡ cell) ⊎ (pair.cell ≢ cell) → Contains new pair
    either_cell there is (inl same) = own_pair same is
    either_cell there is (inr apart) = (replaced pair).1 (inr (apart, there))

    is_own : (a b : Position) → (a ≡ b) ⊎ (a ≢ b)
    is_own a b = by_row (cases_eq a.row b.row)
      where
        by_row : (a.row ≡ b.row) ⊎ (a.row ≢ b.row) → (a ≡ b) ⊎ (a ≢ b)
        by_row (inr rows) = inr (λ same. rows (ap (λ (c : Position). c.row) same))
        by_row (inl rows) = by_col (cases_eq a.col b.col)
          where
            by_col : (a.col ≡ b.col) ⊎ (a.col ≢ b.col) → (a ≡ b) ⊎ (a ≢ b)
            by_col (inr cols) = inr (λ same. cols (ap (λ (c : Position). c.col) same))
            by_col (inl cols) = inl (same_end a b rows cols)

    from_places : IsPairAt sheet places pair ⊎ ((pair.cell ≡ cell) × IsPairOf sheet pair) → Contains new pair
    from_places (inl at) = either_cell ((adds pair).1 (inr at)) at.1 (is_own pair.cell cell)
    from_places (inr own) = own_pair own.0 own.1

    to_new : Contains old pair ⊎ At → Contains new pair
    to_new (inl was) = either_cell ((adds pair).1 (inl was)) (of pair was) (is_own pair.cell cell)
    to_new (inr at) = from_places ((place_more sheet places cell pair inside).0 at)

-- a cell comes to the graph at once
pub cell_now : (sheet : SheetValue) (cell : Position) (old new : List Pair) (waiting : Waiting) (refs : List Corners)
    → IsTrue (is_inside sheet.sizes cell) → IsOnceEach (ranges_in (content_of sheet cell)) refs → Replaces old new cell refs
    → HasPairsBefore sheet cell.col cell.row old waiting → HasPairsBefore sheet cell.col (cell.row + 1) new waiting
cell_now sheet cell old new waiting refs inside once replaced before = record {
  each =
      cell_more sheet cell (IsThereOrWaits sheet old waiting.across.items waiting.alone.items)
      (IsThereOrWaits sheet new waiting.across.items waiting.alone.items) before.each more;
  across = before.across;
  alone = before.alone;
}
  where
    Own : Pair → Type 0
    Own pair = (pair.cell ≡ cell) × IsPairOf sheet pair

    Waits : Pair → Type 0
    Waits pair = IsPairAt sheet waiting.across.items pair ⊎ IsPairAt sheet waiting.alone.items pair

    here : List ℕ
    here = [] ++ place_of sheet.sizes cell ∷ []

    adds : AddsPairsAt sheet here old new
    adds = adds_cell sheet [] cell old old new refs inside (λ pair there. ((before.each pair).0 (inl there)).1) (none_at sheet old) once replaced

    own_place : (pair : Pair) → IsPairAt sheet [] pair ⊎ Own pair → Own pair
    own_place pair (inl none) = absurd (no_member (place_of sheet.sizes pair.cell) none.0)
    own_place pair (inr own) = own

    from_pairs : (pair : Pair) → Contains old pair ⊎ IsPairAt sheet here pair → (Contains old pair ⊎ Waits pair) ⊎ Own pair
    from_pairs pair (inl was) = inl (inl was)
    from_pairs pair (inr at) = inr (own_place pair ((place_more sheet [] cell pair inside).0 at))

    onward : (pair : Pair) → Contains new pair ⊎ Waits pair → (Contains old pair ⊎ Waits pair) ⊎ Own pair
    onward pair (inl there) = from_pairs pair ((adds pair).0 there)
    onward pair (inr waits) = inl (inr waits)

    back : (pair : Pair) → (Contains old pair ⊎ Waits pair) ⊎ Own pair → Contains new pair ⊎ Waits pair
    back pair (inl (inl was)) = inl ((adds pair).1 (inl was))
    back pair (inl (inr waits)) = inr waits
    back pair (inr own) = inl ((adds pair).1 (inr ((place_more sheet [] cell pair inside).1 (inr own))))

    more : (pair : Pair) → (Contains new pair ⊎ Waits pair) ↔ ((Contains old pair ⊎ Waits pair) ⊎ Own pair)
    more pair = (onward pair, back pair)

-- the cell at the next place gets its pairs
pub adds_next : (sheet : SheetValue) (places : List ℕ) (k d : ℕ) (cell : Position) (old now new : List Pair) (refs : List Corners)
    → k < length places → place_of sheet.sizes cell ≡ get_or places k d → IsTrue (is_inside sheet.sizes cell) → AreOfSheet sheet old
    → AddsPairsAt sheet (take k places) old now → IsOnceEach (ranges_in (content_of sheet cell)) refs → Replaces now new cell refs
    → AddsPairsAt sheet (take (k + 1) places) old new
adds_next sheet places k d cell old now new refs below is inside of adds once replaced =
    let more : k + 1 ≡ suc k = omega arith in
    let next : take k places ++ place_of sheet.sizes cell ∷ [] ≡ take (k + 1) places =
    ap (λ p. take k places ++ p ∷ []) is ∙ sym (rw more (take-suc places k d below)) in
    subst (λ (ps : List ℕ). AddsPairsAt sheet ps old new) next (adds_cell sheet (take k places) cell old now new refs inside of adds once replaced)

-- when the cells that wait have their pairs, in whatever order, all are there
pub all_come : (sheet : SheetValue) (across sorted alone : List ℕ) (old now new : List Pair) → IsPermutation across sorted
    → ((pair : Pair) → IsThereOrWaits sheet old across alone pair ↔ IsPairOf sheet pair)
    → AddsPairsAt sheet sorted old now → AddsPairsAt sheet alone now new → ArePairsOf sheet new
all_come sheet across sorted alone old now new same each first second pair =
    (λ there. (each pair).0 (onward ((second pair).0 there)), λ is. back ((each pair).1 is))
  where
    before : Contains old pair ⊎ IsPairAt sheet sorted pair → IsThereOrWaits sheet old across alone pair
    before (inl was) = inl was
    before (inr at) =
        inr (inl (Contains-permutation sorted across (place_of sheet.sizes pair.cell) (IsPermutation-sym across sorted same) at.0, at.1))

    onward : Contains now pair ⊎ IsPairAt sheet alone pair → IsThereOrWaits sheet old across alone pair
    onward (inl there) = before ((first pair).0 there)
    onward (inr at) = inr (inr at)

    back : IsThereOrWaits sheet old across alone pair → Contains new pair
    back (inl was) = (second pair).1 (inl ((first pair).1 (inl was)))
    back (inr (inl at)) =
        (second pair).1 (inl ((first pair).1 (inr (Contains-permutation across sorted (place_of sheet.sizes pair.cell) same at.0, at.1))))
    back (inr (inr at)) = (second pair).1 (inr at)
