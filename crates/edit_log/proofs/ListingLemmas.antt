-- How the list of a sheet's ranges grows, and what it gives for a cell.
use Rattle.std.proofs.Common.{◌≡◌, inl, inr, ◌<◌, ◌≤◌, ◌+◌, ◌-◌, ◌*◌, ℕ, suc, List, [], ◌∷◌, ◌++◌, length, get_or, take, drop, IsTrue}
use Rattle.std.proofs.Common.{arith, refl, sym, ap, subst, ◌∙◌}
use Rattle.std.specs.List.{slice_range}
use Rattle.std.proofs.Math.Nat.{eq-or-lt_of_le}
use Rattle.std.proofs.Math.Seq.{drop-append_seam}
use Rattle.std.proofs.lemmas.Bool.Decides.{nat_tests}
use Rattle.std.proofs.lemmas.List.{drop-append-le, get_or_append_left, get_or_push, length-append, length-drop, length_push, take-append-le, take_all}
use Rattle.sheet_refs.specs.Cells.{Position, Corners}
use Rattle.sheet_refs.specs.Refs.{AreRefs}
use Rattle.sheet_refs.specs.Sizes.{is_inside, place_of}
use Rattle.sheet_refs.specs.declared.sizes.Sizes.{Sizes}
use Rattle.formula_syntax.specs.Listing.{IsOnceEach}
use Rattle.sheet_model.specs.Ranges.{ranges_in}
use Rattle.sheet_model.specs.Sheets.{ContentValue, SheetValue, content_of}
use Rattle.edit_log.specs.Listings.{AreListed, IsPart, content_at}
use Rattle.edit_log.proofs.RunLemmas.{same_end}

-- a part of a list is the same in a longer one, and what was added is the last part
slice_kept : {A : Type 0} (xs ys : List A) (from end : ℕ) → from ≤ end → end ≤ length xs → slice_range (xs ++ ys) from end ≡ slice_range xs from end
slice_kept xs ys from end order within =
    let fits : end - from ≤ length (drop from xs) = omega (arith, within, length-drop from xs) in
    ap (take (end - from)) (drop-append-le from xs ys (omega (arith, order, within))) ∙ take-append-le (end - from) (drop from xs) ys fits

slice_last : {A : Type 0} (xs ys : List A) → slice_range (xs ++ ys) (length xs) (length (xs ++ ys)) ≡ ys
slice_last xs ys =
    let fits : length ys ≤ length (xs ++ ys) - length xs = omega (arith, length-append xs ys) in
    ap (take (length (xs ++ ys) - length xs)) (drop-append_seam xs ys) ∙ take_all (length (xs ++ ys) - length xs) ys fits

part_kept : (content : ContentValue) (ranges more : List Corners) (from end : ℕ) → IsPart content ranges from end
    → IsPart content (ranges ++ more) from end
part_kept content ranges more from end part =
    let same = slice_kept ranges more from end part.order part.within in
    record {
      order = part.order;
      within = omega (arith, part.within, length-append ranges more);
      once = subst (λ (l : List Corners). IsOnceEach (ranges_in content) l) (sym same) part.once;
      refs = subst (λ (l : List Corners). AreRefs l) (sym same) part.refs;
    }

part_added : (content : ContentValue) (ranges more : List Corners) → IsOnceEach (ranges_in content) more → AreRefs more
    → IsPart content (ranges ++ more) (length ranges) (length (ranges ++ more))
part_added content ranges more once are =
    let same = slice_last ranges more in
    record {
      order = omega (arith, length-append ranges more);
      within = omega arith;
      once = subst (λ (l : List Corners). IsOnceEach (ranges_in content) l) (sym same) once;
      refs = subst (λ (l : List Corners). AreRefs l) (sym same) are;
    }

-- no cell is listed yet
pub none_listed : (contents : List ContentValue) (ranges : List Corners) (bounds : List ℕ) → ranges ≡ [] → bounds ≡ 0 ∷ []
    → AreListed contents 0 ranges bounds
none_listed contents ranges bounds none zeroth =
    subst (λ (r : List Corners). AreListed contents 0 r bounds) (sym none) (subst (λ (b : List ℕ). AreListed contents 0 [] b) (sym zeroth)
    (record { many = refl; last = refl; parts = λ place below. absurd (omega (arith, below)) }))

-- one cell more
pub one_listed : (contents : List ContentValue) (count : ℕ) (ranges more : List Corners) (bounds : List ℕ) → AreListed contents count ranges bounds
    → IsOnceEach (ranges_in (content_at contents count)) more → AreRefs more
    → AreListed contents (count + 1) (ranges ++ more) (bounds ++ length (ranges ++ more) ∷ [])
one_listed contents count ranges more bounds listed once are = record {
  many = length_push bounds end ∙ ap (λ n. n + 1) listed.many;
  last = get_or_push bounds end 0 (count + 1) listed.many;
  parts = λ place below. elim (eq-or-lt_of_le (let most : place ≤ count = omega (arith, below) in most)) [
    | inl same ↦ subst Part (sym same) added
    | inr less ↦ kept place less
  ];
}
  where
    end : ℕ
    end = length (ranges ++ more)

    Part : ℕ → Type 0
    Part place = IsPart (content_at contents place) (ranges ++ more) (get_or (bounds ++ end ∷ []) place 0) (get_or (bounds ++ end ∷ []) (place + 1) 0)

    stays : (place : ℕ) → place < count + 1 → get_or (bounds ++ end ∷ []) place 0 ≡ get_or bounds place 0
    stays place below = get_or_append_left bounds (end ∷ []) 0 place (omega (arith, below, listed.many))

    kept : (place : ℕ) → place < count → Part place
    kept place less =
        let part = part_kept (content_at contents place) ranges more (get_or bounds place 0) (get_or bounds (place + 1) 0) (listed.parts place less) in
        subst (λ a. IsPart (content_at contents place) (ranges ++ more) a (get_or (bounds ++ end ∷ []) (place + 1) 0)) (sym (stays place (omega (arith, less))))
        (subst (λ b. IsPart (content_at contents place) (ranges ++ more) (get_or bounds place 0) b) (sym (stays (place + 1) (omega (arith, less)))) part)

    added : Part count
    added =
        let from : get_or (bounds ++ end ∷ []) count 0 ≡ length ranges = stays count (omega arith) ∙ listed.last in
        let to : get_or (bounds ++ end ∷ []) (count + 1) 0 ≡ end = get_or_push bounds end 0 (count + 1) listed.many in
        subst (λ a. IsPart (content_at contents count) (ranges ++ more) a (get_or (bounds ++ end ∷ []) (count + 1) 0)) (sym from)
        (subst (λ b. IsPart (content_at contents count) (ranges ++ more) (length ranges) b) (sym to)
        (part_added (content_at contents count) ranges more once are))

-- the same, where the two lists come of calls
pub longer : (contents : List ContentValue) (count : ℕ) (ranges more all : List Corners) (bounds ends : List ℕ) (end : ℕ)
    → AreListed contents count ranges bounds → IsOnceEach (ranges_in (content_at contents count)) more → AreRefs more
    → all ≡ ranges ++ more → end ≡ length all → ends ≡ bounds ++ end ∷ [] → AreListed contents (count + 1) all ends
longer contents count ranges more all bounds ends end listed once are all_is end_is ends_are =
    let last : ends ≡ bounds ++ length (ranges ++ more) ∷ [] =
    ends_are ∙ ap (λ n. bounds ++ n ∷ []) (end_is ∙ ap (λ (l : List Corners). length l) all_is) in
    subst (λ (b : List ℕ). AreListed contents (count + 1) all b) (sym last)
    (subst (λ (r : List Corners). AreListed contents (count + 1) r (bounds ++ length (ranges ++ more) ∷ [])) (sym all_is)
    (one_listed contents count ranges more bounds listed once are))

-- what stands in a cell of the sheet stands at its place
pub content_there : (sheet : SheetValue) (cell : Position) → IsTrue (is_inside sheet.sizes cell)
    → content_of sheet cell ≡ content_at sheet.contents (place_of sheet.sizes cell)
content_there sheet cell inside = grind (arith, inside)

-- the first cell is that of the first row; behind the last cell of a row comes the first of the next one
pub first_cell : (contents : List ContentValue) (sizes : Sizes) (ranges : List Corners) (bounds : List ℕ) → AreListed contents 0 ranges bounds
    → AreListed contents (place_of sizes (record { row = 1; col = 1 })) ranges bounds
first_cell contents sizes ranges bounds none = subst (λ n. AreListed contents n ranges bounds) (start sizes.cols) none
  where
    start : (cols : ℕ) → 0 ≡ (1 - 1) * cols + (1 - 1)
    start cols = grind arith

pub row_behind : (sizes : Sizes) (row : ℕ) → 1 ≤ row
    → place_of sizes (record { row = row; col = sizes.cols + 1 }) ≡ place_of sizes (record { row = row + 1; col = 1 })
row_behind sizes row some =
    let next : suc (row - 1) ≡ row + 1 - 1 = omega (arith, some) in
    go sizes.cols (row - 1) ∙ ap (λ n. n * sizes.cols + (1 - 1)) next
  where
    go : (cols n : ℕ) → n * cols + (cols + 1 - 1) ≡ suc n * cols + (1 - 1)
    go cols n = grind arith

-- a cell comes behind the one before it in its row
pub cell_behind : (sizes : Sizes) (row col : ℕ) → 1 ≤ col
    → place_of sizes (record { row = row; col = col }) + 1 ≡ place_of sizes (record { row = row; col = col + 1 })
cell_behind sizes row col some = go ((row - 1) * sizes.cols) col some
  where
    go : (before col : ℕ) → 1 ≤ col → before + (col - 1) + 1 ≡ before + (col + 1 - 1)
    go before col some = omega (arith, some)

-- what a cell names, by its row and its column
pub named_there : (sheet : SheetValue) (cell : Position) (row col : ℕ) (refs : List Corners) → (cell.row ≡ row) × (cell.col ≡ col)
    → (1 ≤ row) × (row ≤ sheet.sizes.rows) → (1 ≤ col) × (col ≤ sheet.sizes.cols) → IsOnceEach (ranges_in (content_of sheet cell)) refs
    → IsOnceEach (ranges_in (content_at sheet.contents (place_of sheet.sizes (record { row = row; col = col })))) refs
named_there sheet cell row col refs at rows cols once =
    let inside : IsTrue (is_inside sheet.sizes (record { row = row; col = col })) = grind (arith, nat_tests, rows.0, rows.1, cols.0, cols.1) in
    subst (λ (c : ContentValue). IsOnceEach (ranges_in c) refs) (content_there sheet (record { row = row; col = col }) inside)
    (subst (λ (p : Position). IsOnceEach (ranges_in (content_of sheet p)) refs) (same_end cell (record { row = row; col = col }) at.0 at.1) once)
