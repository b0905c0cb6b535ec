-- One step of a walk: what depends directly on ranges, and a cell of a level from which one steps on.
use Rattle.std.proofs.Common.{◌≡◌, ◌≤◌, ◌<◌, get_or, ◌↔◌, ◌⊎◌, inl, inr, ℕ, List, [], ◌∷◌, ◌++◌, ◌∙◌, refl, sym, ap, subst, arith}
use Rattle.std.specs.Prelude.{length, take, Option, Some, None, MatchOption, zero, suc, ◌+◌, true}
use Rattle.std.specs.Option.{is_some}
use Rattle.std.proofs.Common.{min, max}
use Rattle.std.proofs.Math.Seq.{take-suc}
use Rattle.std.proofs.lemmas.List.Elements.{Contains-get_or}
use Rattle.std.specs.List.{Contains}
use Rattle.sheet_refs.specs.Cells.{Position, Corners, IsIn, IsOrdered, span_of}
use Rattle.sheet_refs.specs.Rectangles.{IsAmong}
use Rattle.sheet_refs.proofs.Tiles.{among_append, among_one}
use Rattle.sheet_refs.proofs.ColumnLemmas.{none_among, among_cons}
use Rattle.graph_walk.specs.Graphs.{Pair, Step, AddsDirectDependents, AddsDirectPrecedents}
use Rattle.dep_path.specs.Levels.{IsDirect, SharesNone, IsFoundIn, one_cell}

-- a cell is the one of its range
pub in_itself : (cell : Position) → IsIn cell (one_cell cell)
in_itself cell = record { row_from = omega arith; row_to = omega arith; col_from = omega arith; col_to = omega arith }

pub is_itself : (cell other : Position) → IsIn other (one_cell cell) → other ≡ cell
is_itself cell other inside =
    let row : other.row ≡ cell.row = omega (arith, inside.row_from, inside.row_to) in
    let col : other.col ≡ cell.col = omega (arith, inside.col_from, inside.col_to) in
    ap (λ (r : ℕ). record { row = r; col = other.col }) row ∙ ap (λ (c : ℕ). record { row = cell.row; col = c }) col

-- nothing depends on no ranges
pub none_direct : (pairs : List Pair) (cell : Position) → IsDirect pairs [] cell → ⊥
none_direct pairs cell direct = none_among direct.0 direct.1

-- what depends on one range more
pub one_more : (pairs : List Pair) (ranges : List Corners) (range : Corners) (found : List Corners)
    → AddsDirectDependents pairs range [] found
    → (cell : Position) → IsDirect pairs (ranges ++ range ∷ []) cell ↔ (IsDirect pairs ranges cell ⊎ IsAmong found cell)
one_more pairs ranges range found adds cell = (there, back)
  where
    there : IsDirect pairs (ranges ++ range ∷ []) cell → IsDirect pairs ranges cell ⊎ IsAmong found cell
    there direct = by_part ((among_append ranges (range ∷ []) direct.0).0 direct.1)
      where
        by_part : IsAmong ranges direct.0 ⊎ IsAmong (range ∷ []) direct.0 → IsDirect pairs ranges cell ⊎ IsAmong found cell
        by_part (inl old) = inl (direct.0, old, direct.2)
        by_part (inr new) =
            let all = adds.all cell (direct.0, among_one range direct.0 new, direct.2) in
            inr (subst (λ (l : List Corners). IsAmong l cell) (sym adds.whole) all)

    back : IsDirect pairs ranges cell ⊎ IsAmong found cell → IsDirect pairs (ranges ++ range ∷ []) cell
    back (inl direct) = (direct.0, (among_append ranges (range ∷ []) direct.0).1 (inl direct.1), direct.2)
    back (inr new) =
        let direct = adds.only cell (subst (λ (l : List Corners). IsAmong l cell) adds.whole new) in
        (direct.0, (among_append ranges (range ∷ []) direct.0).1 (inr ((among_cons range [] direct.0).1 (inl direct.1))), direct.2)

-- the direct precedents of one cell
pub precedents_of : (pairs : List Pair) (cell : Position) (found : List Corners) → AddsDirectPrecedents pairs (one_cell cell) [] found
    → (from : Position) → IsAmong found from ↔ Step pairs from cell
precedents_of pairs cell found adds from = (there, back)
  where
    there : IsAmong found from → Step pairs from cell
    there among =
        let direct = adds.only from (subst (λ (l : List Corners). IsAmong l from) adds.whole among) in
        subst (λ (to : Position). Step pairs from to) (is_itself cell direct.0 direct.1) direct.2

    back : Step pairs from cell → IsAmong found from
    back step = subst (λ (l : List Corners). IsAmong l from) (sym adds.whole) (adds.all from (cell, in_itself cell, step))

-- the first so many and one more
pub take_more : {A : Type 0} (xs : List A) (k : ℕ) (x : A) → k < length xs → x ≡ get_or xs k x → take (k + 1) xs ≡ take k xs ++ x ∷ []
take_more xs k x below at =
    let more : k + 1 ≡ suc k = omega arith in
    ap (λ n. take n xs) more ∙ take-suc xs k x below ∙ ap (λ y. take k xs ++ y ∷ []) (sym at)

pub take_all : {A : Type 0} (xs : List A) (k : ℕ) → length xs ≤ k → take k xs ≡ xs
take_all [] zero past = refl
take_all [] (suc k) past = refl
take_all (x ∷ xs) zero past = absurd (omega (arith, past))
take_all (x ∷ xs) (suc k) past = ap (λ l. x ∷ l) (take_all xs k (omega (arith, past)))

-- ranges that share no cell with one more
pub shares_none_more : (Has : Position → Type 0) (others : List Corners) (k : ℕ) (x : Corners) → k < length others
    → x ≡ get_or others k x → SharesNone Has (take k others)
    → ((cell : Position) → Has cell → ¬ IsIn cell x) → SharesNone Has (take (k + 1) others)
shares_none_more Has others k x below at before here cell has among =
    by_part ((among_append (take k others) (x ∷ []) cell).0 (subst (λ (l : List Corners). IsAmong l cell) (take_more others k x below at) among))
  where
    by_part : IsAmong (take k others) cell ⊎ IsAmong (x ∷ []) cell → ⊥
    by_part (inl old) = before cell has old
    by_part (inr new) = here cell has (among_one x cell new)

pub among_none_more : (some others : List Corners) (k : ℕ) (x : Corners) → k < length some → x ≡ get_or some k x → SharesNone (IsAmong (take k some)) others
    → SharesNone (λ cell. IsIn cell x) others → SharesNone (IsAmong (take (k + 1) some)) others
among_none_more some others k x below at before here cell among other =
    by_part ((among_append (take k some) (x ∷ []) cell).0 (subst (λ (l : List Corners). IsAmong l cell) (take_more some k x below at) among))
  where
    by_part : IsAmong (take k some) cell ⊎ IsAmong (x ∷ []) cell → ⊥
    by_part (inl old) = before cell old other
    by_part (inr new) = here cell (among_one x cell new) other

-- a range of a list has its cells
pub among_one_of : (ranges : List Corners) (k : ℕ) (x : Corners) (cell : Position) → k < length ranges
    → x ≡ get_or ranges k x → IsIn cell x → IsAmong ranges cell
among_one_of ranges k x cell below at inside =
    record {
      range = x;
      listed = subst (λ (r : Corners). Contains ranges r) (sym at) (Contains-get_or ranges k x below);
      inside = inside;
    }

-- the head of a range is one of its cells
pub head_in : (range : Corners) (cell : Position) → cell ≡ range.head → IsOrdered range.head range.tail → IsIn cell range
head_in range cell is ordered =
    subst (λ (at : Position). IsIn at range) (sym is)
    (record { row_from = omega arith; row_to = ordered.rows; col_from = omega arith; col_to = ordered.cols })

-- the smallest range with one cell is that cell
pub asked_one : (cell : Position) → span_of cell cell ≡ one_cell cell
asked_one cell =
    let low_row : min cell.row cell.row ≡ cell.row = omega arith in
    let low_col : min cell.col cell.col ≡ cell.col = omega arith in
    let high_row : max cell.row cell.row ≡ cell.row = omega arith in
    let high_col : max cell.col cell.col ≡ cell.col = omega arith in
    rw (low_row, low_col, high_row, high_col) refl

-- the direct precedents of one cell, as they are asked for
pub precedents_asked : (pairs : List Pair) (cell : Position) (range : Corners) (old found : List Corners) → range ≡ span_of cell cell → old ≡ []
    → AddsDirectPrecedents pairs range old found → (from : Position) → IsAmong found from ↔ Step pairs from cell
precedents_asked pairs cell range old found is empty adds =
    precedents_of pairs cell found (subst (λ (l : List Corners). AddsDirectPrecedents pairs (one_cell cell) l found)
    empty (subst (λ (r : Corners). AddsDirectPrecedents pairs r old found) (is ∙ asked_one cell) adds))

-- whether a cell was found among ranges
pub found_among : (cell : Position) (range : Corners) (others : List Corners) (result : Option Position) → range ≡ span_of cell cell
    → MatchOption result (SharesNone (λ at. IsIn at range) others) (IsFoundIn (λ at. IsIn at range) others) → (is_some result ≡ true) ↔ IsAmong others cell
found_among cell range others (Some at) is found =
    let same : at ≡ cell = is_itself cell at (subst (IsIn at) (is ∙ asked_one cell) found.has) in
    ((λ _. subst (IsAmong others) same found.among), (λ _. refl))
found_among cell range others None is none =
    ((λ no. absurd (cc)), (λ among. absurd (none cell (subst (IsIn cell) (sym (is ∙ asked_one cell)) (in_itself cell)) among)))
