-- The pairs of a sheet's run that is filled from its head.
use Rattle.std.proofs.Common.{◌≡◌, ◌≢◌, ◌⊎◌, ◌↔◌, inl, inr, ℕ, zero, suc, pos, ◌+◌, ◌-◌, ◌<◌, Bool, true, false, Option, Some, IsSome, List, [], ◌∷◌}
use Rattle.std.proofs.Common.{map, All, Contains, arith, refl, sym, ap, ◌∙◌, subst}
use Rattle.std.specs.Prelude.{not}
use Rattle.std.proofs.lemmas.Bool.{cases_eq}
use Rattle.std.proofs.lemmas.Int.{ints}
use Rattle.std.proofs.lemmas.Option.{same_Some}
use Rattle.sheet_refs.specs.Cells.{Corners, IsIn, IsOrdered, Position}
use Rattle.sheet_refs.specs.Ends.{Anchor, IsReference, Reference, corners_of}
use Rattle.formula_syntax.specs.Listing.{ranges_of}
use Rattle.formula_syntax.specs.Shifting.{IsMovedEnd, IsMovedPart, shifted}
use Rattle.formula_syntax.specs.Tree.{IsFitting, Tree, references_of}
use Rattle.formula_syntax.proofs.Shifts.{moved_end, stays}
use Rattle.edge_patterns.specs.declared.axis.Axis.{Axis}
use Rattle.edge_patterns.specs.declared.axis.Axis.TheVariants.{Down, Right}
use Rattle.edge_patterns.specs.Axes.{IsLine, along, axis_of, cell_along, count_along}
use Rattle.edge_patterns.specs.Edges.{steps_if}
use Rattle.sheet_model.specs.Ranges.{ranges_in}
use Rattle.sheet_model.specs.Sheets.{Computed, ContentValue, IsSheet, IsWithinSheet, IsWritten, SheetValue, content_of}
use Rattle.sheet_model.proofs.ListMembers.{mapped_from, mapped_to}
use Rattle.sheet_model.proofs.SheetLemmas.{held_of}
use Rattle.sheet_fill.specs.FilledRuns.{IsFilledPair, cell_count_of, cols_right, reference_along, rows_down}
use Rattle.sheet_fill.specs.FillLaws.{GivesPair, IsOnward, IsReferenceOnward, RefersTo, with_run_filled}
use Rattle.sheet_fill.specs.Filling.{copied, way}
use Rattle.sheet_fill.proofs.FillLemmas.{filled_copies, filled_others}
use Rattle.sheet_fill.proofs.FormulaLemmas.{formula_moves}
use Rattle.sheet_fill.proofs.MovedLemmas.{reference_moves}

-- the way from the head of a run to one of its cells
rows_on : (axis : Axis) (run : Corners) (index : ℕ) → way run.head.row (cell_along axis run index).row ≡ rows_down axis index
rows_on Down run index = omega (arith, ints)
rows_on Right run index = omega (arith, ints)

cols_on : (axis : Axis) (run : Corners) (index : ℕ) → way run.head.col (cell_along axis run index).col ≡ cols_right axis index
cols_on Down run index = omega (arith, ints)
cols_on Right run index = omega (arith, ints)

abbrev tree_along : Axis → ℕ → Tree → Tree
tree_along axis index tree = shifted (rows_down axis index) (cols_right axis index) tree

copied_along : (axis : Axis) (run : Corners) (index : ℕ) (tree : Tree)
    → copied run.head (cell_along axis run index) (Computed tree) ≡ Computed (tree_along axis index tree)
copied_along axis run index tree =
    let rows = rows_on axis run index in
    let cols = cols_on axis run index in
    λ i. Computed (shifted (rows i) (cols i) tree)

-- an end and a reference along a direction
onward_by : (fixed : Bool) (steps part new : ℕ) → IsMovedPart fixed (pos steps) part new → new ≡ part + steps_if (not fixed) steps
onward_by true steps part new is = omega (arith, is)
onward_by false steps part new is = omega (arith, ints, is)

still_by : (fixed : Bool) (part new : ℕ) → IsMovedPart fixed (pos 0) part new → new ≡ part
still_by true part new is = is
still_by false part new is = omega (arith, ints, is)

end_onward : (axis : Axis) (steps : ℕ) (end new : Anchor) → IsMovedEnd (rows_down axis steps) (cols_right axis steps) end new → IsOnward axis steps end new
end_onward Down steps end new is = record {
  onward = onward_by end.row_fixed steps end.cell.row new.cell.row is.row;
  beside = still_by end.col_fixed end.cell.col new.cell.col is.col;
}
end_onward Right steps end new is = record {
  onward = onward_by end.col_fixed steps end.cell.col new.cell.col is.col;
  beside = still_by end.row_fixed end.cell.row new.cell.row is.row;
}

pub reference_onward : (axis : Axis) (steps : ℕ) (r new : Reference) → IsReference r.head r.tail r.single
    → reference_along axis steps r ≡ Some new → IsReferenceOnward axis steps r new
reference_onward axis steps r new is moved =
    let down = rows_down axis steps in
    let right = cols_right axis steps in
    let ends = (reference_moves down right r new is).0 moved in
    record {
      head = ends.head;
      tail = ends.tail;
      head_is = moved_end down right r.head ends.head ends.head_moved;
      tail_is = moved_end down right r.tail ends.tail ends.tail_moved;
      head_onward = end_onward axis steps r.head ends.head ends.head_moved;
      tail_onward = end_onward axis steps r.tail ends.tail ends.tail_moved;
      range_is = ends.range_is;
    }

-- at the head nothing moves
head_tree : (axis : Axis) (tree : Tree) → IsFitting tree → tree_along axis 0 tree ≡ tree
head_tree Down tree fits = stays tree fits
head_tree Right tree fits = stays tree fits

head_cell : (axis : Axis) (run : Corners) → cell_along axis run 0 ≡ run.head
head_cell Down run = let row : run.head.row + 0 ≡ run.head.row = omega arith in λ i. record { row = row i; col = run.head.col }
head_cell Right run = let col : run.head.col + 0 ≡ run.head.col = omega arith in λ i. record { row = run.head.row; col = col i }

-- each number is that of one cell of the run
number_on : (axis : Axis) (run : Corners) (index : ℕ) → along axis (cell_along axis run index) ≡ along axis run.head + index
number_on Down run index = refl
number_on Right run index = refl

same_number : (axis : Axis) (run : Corners) (i j : ℕ) → cell_along axis run i ≡ cell_along axis run j → i ≡ j
same_number axis run i j same =
    let places = ap (along axis) same in omega (arith, places, number_on axis run i, number_on axis run j)

run_in : (axis : Axis) (run : Corners) (index : ℕ) → IsLine axis run → index < count_along axis run → IsIn (cell_along axis run index) run
run_in Down run index line within = record {
  row_from = omega arith;
  row_to = omega (arith, within);
  col_from = omega arith;
  col_to = omega (arith, line);
}
run_in Right run index line within = record {
  row_from = omega arith;
  row_to = omega (arith, line);
  col_from = omega arith;
  col_to = omega (arith, within);
}

in_run : (axis : Axis) (run : Corners) (cell : Position) → IsLine axis run → IsIn cell run
    → (index : ℕ) × (index < count_along axis run) × (cell ≡ cell_along axis run index)
in_run Down run cell line here =
    let a = here.row_from in
    let b = here.row_to in
    let c = here.col_from in
    let d = here.col_to in
    let row : cell.row ≡ run.head.row + (cell.row - run.head.row) = omega (arith, a) in
    let col : cell.col ≡ run.head.col = omega (arith, c, d, line) in
    (cell.row - run.head.row, omega (arith, a, b), λ i. record { row = row i; col = col i })
in_run Right run cell line here =
    let a = here.row_from in
    let b = here.row_to in
    let c = here.col_from in
    let d = here.col_to in
    let row : cell.row ≡ run.head.row = omega (arith, a, b, line) in
    let col : cell.col ≡ run.head.col + (cell.col - run.head.col) = omega (arith, c) in
    (cell.col - run.head.col, omega (arith, c, d), λ i. record { row = row i; col = col i })

-- a run of the sheet, one cell wide, with a formula at its head
pub record IsRunOf (sheet : SheetValue) (run : Corners) (tree : Tree) : Type 0 where
  pub sheet_is : IsSheet sheet
  pub inside : IsWithinSheet run sheet
  pub line : IsLine (axis_of run) run
  pub head : content_of sheet run.head ≡ Computed tree

-- no reference of the formula is lost as far as a cell of the run
abbrev StayNamedAt : Corners → Tree → ℕ → Type 0
StayNamedAt run tree index = All (λ r. IsSome (reference_along (axis_of run) index r)) (references_of tree)

-- what stands in a cell of a filled run
fitting_head : (sheet : SheetValue) (run : Corners) (tree : Tree) → IsRunOf sheet run tree → IsFitting tree
fitting_head sheet run tree is = (subst IsWritten is.head (held_of sheet is.sheet_is run.head).written).fitting

ordered_by : (run : Corners) (cell : Position) → IsIn cell run → IsOrdered run.head run.tail
ordered_by run cell here =
    let a = here.row_from in
    let b = here.row_to in
    let c = here.col_from in
    let d = here.col_to in
    record { rows = omega (arith, a, b); cols = omega (arith, c, d) }

content_along : (sheet : SheetValue) (run : Corners) (tree : Tree) (index : ℕ) → IsRunOf sheet run tree → index < cell_count_of run
    → content_of (with_run_filled sheet run) (cell_along (axis_of run) run index) ≡ Computed (tree_along (axis_of run) index tree)
content_along sheet run tree index is within = go (cases_eq index 0)
  where
    go : (index ≡ 0) ⊎ (index ≡ 0 → ⊥)
        → content_of (with_run_filled sheet run) (cell_along (axis_of run) run index) ≡ Computed (tree_along (axis_of run) index tree)
    go (inl first) =
        let cell_is : cell_along (axis_of run) run index ≡ run.head = ap (cell_along (axis_of run) run) first ∙ head_cell (axis_of run) run in
        let tree_is : tree ≡ tree_along (axis_of run) index tree =
        sym (ap (λ n. tree_along (axis_of run) n tree) first ∙ head_tree (axis_of run) tree (fitting_head sheet run tree is)) in
        filled_others sheet run.head run (cell_along (axis_of run) run index)
        (ordered_by run (cell_along (axis_of run) run index) (run_in (axis_of run) run index is.line within)) (inl cell_is)
        ∙ ap (content_of sheet) cell_is ∙ is.head ∙ ap Computed tree_is
    go (inr later) =
        let differs : cell_along (axis_of run) run index ≢ run.head =
        λ same. later (same_number (axis_of run) run index 0 (same ∙ sym (head_cell (axis_of run) run))) in
        filled_copies sheet run.head run (cell_along (axis_of run) run index) is.sheet_is is.inside
        (run_in (axis_of run) run index is.line within) differs
        ∙ ap (copied run.head (cell_along (axis_of run) run index)) is.head ∙ copied_along (axis_of run) run index tree

-- the ranges of references that moved
ranges_from : (f : Reference → Option Reference) (old new : List Reference) (range : Corners) → map f old ≡ map Some new
    → Contains (map corners_of new) range → (r : Reference) × (s : Reference) × Contains old r × (f r ≡ Some s) × (range ≡ corners_of s)
ranges_from f old new range moved there =
    let (s, s_in, range_is) = mapped_from corners_of new range there in
    let (r, r_in, is) = mapped_from f old (Some s) (subst (λ os. Contains os (Some s)) (sym moved) (mapped_to Some new s s_in)) in
    (r, s, r_in, is, sym range_is)

ranges_to : (f : Reference → Option Reference) (old new : List Reference) (r s : Reference) → map f old ≡ map Some new
    → Contains old r → f r ≡ Some s → Contains (map corners_of new) (corners_of s)
ranges_to f old new r s moved r_in is =
    let there : Contains (map Some new) (Some s) = subst (Contains (map Some new)) is (subst (λ os. Contains os (f r)) moved (mapped_to f old r r_in)) in
    let (t, t_in, same) = mapped_from Some new (Some s) there in
    let t_is : t ≡ s = same_Some t s same in
    subst (λ (x : Reference). Contains (map corners_of new) (corners_of x)) t_is (mapped_to corners_of new t t_in)

pub filled_pairs : (sheet : SheetValue) (run : Corners) (tree : Tree) (index : ℕ) (range : Corners) → IsRunOf sheet run tree → index < cell_count_of run
    → StayNamedAt run tree index
    → RefersTo (with_run_filled sheet run) (cell_along (axis_of run) run index) range ↔ GivesPair run tree range (cell_along (axis_of run) run index)
filled_pairs sheet run tree index range is within stay = (to, from)
  where
    moved : map (reference_along (axis_of run) index) (references_of tree) ≡ map Some (references_of (tree_along (axis_of run) index tree))
    moved =
        ((formula_moves (rows_down (axis_of run) index) (cols_right (axis_of run) index) tree (fitting_head sheet run tree is)).0 stay).references

    content : content_of (with_run_filled sheet run) (cell_along (axis_of run) run index) ≡ Computed (tree_along (axis_of run) index tree)
    content = content_along sheet run tree index is within

    to : RefersTo (with_run_filled sheet run) (cell_along (axis_of run) run index) range → GivesPair run tree range (cell_along (axis_of run) run index)
    to refers =
        let there : Contains (ranges_of (tree_along (axis_of run) index tree)) range =
        subst (λ (c : ContentValue). Contains (ranges_in c) range) content refers in
        let (r, s, r_in, s_is, range_is) = ranges_from (reference_along (axis_of run) index) (references_of tree)
        (references_of (tree_along (axis_of run) index tree)) range moved there in
        (r, r_in, record { index = index; within = within; cell_is = refl; moved = s; moved_is = s_is; range_is = range_is })

    from : GivesPair run tree range (cell_along (axis_of run) run index) → RefersTo (with_run_filled sheet run) (cell_along (axis_of run) run index) range
    from (r, r_in, pair) =
        let same : index ≡ pair.index = same_number (axis_of run) run index pair.index pair.cell_is in
        let moved_is : reference_along (axis_of run) index r ≡ Some pair.moved =
        ap (λ n. reference_along (axis_of run) n r) same ∙ pair.moved_is in
        let there = ranges_to (reference_along (axis_of run) index) (references_of tree) (references_of (tree_along (axis_of run) index tree)) r pair.moved
        moved r_in moved_is in
        subst (λ (c : ContentValue). Contains (ranges_in c) range) (sym content)
        (subst (Contains (ranges_of (tree_along (axis_of run) index tree))) (sym pair.range_is) there)

-- the pairs of a run whose formula has one reference that stays within the names
pub run_pairs : (sheet : SheetValue) (run : Corners) (tree : Tree) (r : Reference) (range : Corners) (cell : Position) → IsRunOf sheet run tree
    → references_of tree ≡ r ∷ [] → ((index : ℕ) → index < cell_count_of run → IsSome (reference_along (axis_of run) index r))
    → (IsIn cell run × RefersTo (with_run_filled sheet run) cell range) ↔ IsFilledPair run r range cell
run_pairs sheet run tree r range cell is one stays = (to, from)
  where
    only : (index : ℕ) → IsSome (reference_along (axis_of run) index r) → All (λ s. IsSome (reference_along (axis_of run) index s)) (r ∷ [])
    only index some zero d below = some
    only index some (suc k) d below = absurd (omega (arith, below))

    stay : (index : ℕ) → index < cell_count_of run → StayNamedAt run tree index
    stay index within = subst (All (λ s. IsSome (reference_along (axis_of run) index s))) (sym one) (only index (stays index within))

    member : (s : Reference) → Contains (r ∷ []) s → s ≡ r
    member s (zero, within, at) = sym at
    member s (suc k, within, at) = absurd (omega (arith, within))

    to : IsIn cell run × RefersTo (with_run_filled sheet run) cell range → IsFilledPair run r range cell
    to (here, refers) =
        let (index, within, cell_is) = in_run (axis_of run) run cell is.line here in
        let (s, s_in, pair) = (filled_pairs sheet run tree index range is within (stay index within)).0
        (subst (λ (c : Position). RefersTo (with_run_filled sheet run) c range) cell_is refers) in
        let s_is : s ≡ r = member s (subst (λ rs. Contains rs s) one s_in) in
        subst (λ (c : Position). IsFilledPair run r range c) (sym cell_is)
        (subst (λ (x : Reference). IsFilledPair run x range (cell_along (axis_of run) run index)) s_is pair)

    from : IsFilledPair run r range cell → IsIn cell run × RefersTo (with_run_filled sheet run) cell range
    from pair =
        let at : IsFilledPair run r range (cell_along (axis_of run) run pair.index) =
        subst (λ (c : Position). IsFilledPair run r range c) pair.cell_is pair in
        let r_in : Contains (references_of tree) r = subst (λ rs. Contains rs r) (sym one) (0, omega arith, refl) in
        let refers = (filled_pairs sheet run tree pair.index range is pair.within (stay pair.index pair.within)).1 (r, r_in, at) in
        subst (λ (c : Position). IsIn c run × RefersTo (with_run_filled sheet run) c range) (sym pair.cell_is)
        (run_in (axis_of run) run pair.index is.line pair.within, refers)
