-- Lists of disjoint ranges as sets of cells: joined end to end, they tile the union.
use Rattle.std.proofs.Common.{◌≡◌, ℕ, zero, suc, ◌+◌, ◌-◌, ◌<◌, ◌≤◌, ◌↔◌, ◌⊎◌, inl, inr, List, [], ◌∷◌, ◌++◌, length}
use Rattle.std.proofs.Common.{get_or, refl, sym, subst, arith, length-append}
use Rattle.std.proofs.lemmas.Bool.{cases_lt}
use Rattle.std.proofs.lemmas.List.{get_or_append_left, get_or-append_right}
use Rattle.std.proofs.lemmas.List.Elements.{Contains-append_left, Contains-append_right, Contains-append_cases, Contains-get_or}
use Rattle.std.specs.List.{AllPairs, Contains}
use Rattle.sheet_refs.specs.Cells.{Position, Corners, IsIn}
use Rattle.sheet_refs.specs.Rectangles.{Overlap, IsAmong, Tile}

-- each of the first list with each of the second
abbrev pub Across : {X : Type 0} → (X → X → Type 0) → List X → List X → Type 0
Across {X} R xs ys = (i j : ℕ) (d : X) → i < length xs → j < length ys → R (get_or xs i d) (get_or ys j d)

pub AllPairs-append : {X : Type 0} (R : X → X → Type 0) (xs ys : List X) → AllPairs R xs → AllPairs R ys → Across R xs ys → AllPairs R (xs ++ ys)
AllPairs-append {X} R xs ys first second across i j d before within = at (cases_lt i (length xs)) (cases_lt j (length xs))
  where
    n : ℕ
    n = length xs

    short : j < n + length ys
    short = omega (arith, within, length-append xs ys)

    left : (k : ℕ) → k < n → get_or (xs ++ ys) k d ≡ get_or xs k d
    left k below = get_or_append_left xs ys d k below

    right : (k : ℕ) → n ≤ k → get_or (xs ++ ys) k d ≡ get_or ys (k - n) d
    right k from = get_or-append_right xs ys n k d refl from

    at : (i < n) ⊎ (n ≤ i) → (j < n) ⊎ (n ≤ j) → R (get_or (xs ++ ys) i d) (get_or (xs ++ ys) j d)
    at (inl i_left) (inl j_left) = rw (left i i_left, left j j_left) (first i j d before j_left)
    at (inl i_left) (inr j_right) = rw (left i i_left, right j j_right) (across i (j - n) d i_left (omega (arith, short)))
    at (inr i_right) (inl j_left) = absurd (omega arith)
    at (inr i_right) (inr j_right) = rw (right i i_right, right j j_right) (second (i - n) (j - n) d (omega arith) (omega (arith, short)))

pub among_at : (ranges : List Corners) (i : ℕ) (d : Corners) (cell : Position) → i < length ranges → IsIn cell (get_or ranges i d) → IsAmong ranges cell
among_at ranges i d cell below inside = record { range = get_or ranges i d; listed = Contains-get_or ranges i d below; inside = inside }

pub among_append : (xs ys : List Corners) (cell : Position) → IsAmong (xs ++ ys) cell ↔ (IsAmong xs cell ⊎ IsAmong ys cell)
among_append xs ys cell = (split, join)
  where
    split : IsAmong (xs ++ ys) cell → IsAmong xs cell ⊎ IsAmong ys cell
    split among = elim (Contains-append_cases xs ys among.range among.listed) [
      | inl listed ↦ inl (record { range = among.range; listed = listed; inside = among.inside })
      | inr listed ↦ inr (record { range = among.range; listed = listed; inside = among.inside })
    ]

    join : IsAmong xs cell ⊎ IsAmong ys cell → IsAmong (xs ++ ys) cell
    join (inl among) = record { range = among.range; listed = Contains-append_left xs ys among.range among.listed; inside = among.inside }
    join (inr among) = record { range = among.range; listed = Contains-append_right xs ys among.range among.listed; inside = among.inside }

-- tiles of two sets that share no cell, joined
pub tile_append : (xs ys : List Corners) (S A T : Position → Type 0) → Tile xs S → Tile ys A
    → ((cell : Position) → S cell → A cell → ⊥) → ((cell : Position) → T cell ↔ (S cell ⊎ A cell)) → Tile (xs ++ ys) T
tile_append xs ys S A T first second apart union = record {
  disjoint = AllPairs-append (λ a b. ¬ Overlap a b) xs ys first.disjoint second.disjoint across;
  exact = λ cell. (λ among. (union cell).1 (to ((among_append xs ys cell).0 among)), λ inside. (among_append xs ys cell).1 (from ((union cell).0 inside)));
}
  where
    across : Across (λ a b. ¬ Overlap a b) xs ys
    across i j d i_in j_in (cell, shared) =
        apart cell ((first.exact cell).0 (among_at xs i d cell i_in shared.first)) ((second.exact cell).0 (among_at ys j d cell j_in shared.second))

    to : {cell : Position} → IsAmong xs cell ⊎ IsAmong ys cell → S cell ⊎ A cell
    to {cell} (inl among) = inl ((first.exact cell).0 among)
    to {cell} (inr among) = inr ((second.exact cell).0 among)

    from : {cell : Position} → S cell ⊎ A cell → IsAmong xs cell ⊎ IsAmong ys cell
    from {cell} (inl s) = inl ((first.exact cell).1 s)
    from {cell} (inr a) = inr ((second.exact cell).1 a)

pub among_one : (range : Corners) (cell : Position) → IsAmong (range ∷ []) cell → IsIn cell range
among_one range cell among = at among.listed
  where
    at : Contains (range ∷ []) among.range → IsIn cell range
    at (zero, below, is) = subst (λ (r : Corners). IsIn cell r) (sym is) among.inside
    at (suc k, below, is) = absurd (omega arith)

-- one range tiles its own cells
pub tile_one : (range : Corners) (A : Position → Type 0) → ((cell : Position) → IsIn cell range ↔ A cell) → Tile (range ∷ []) A
tile_one range A exact = record {
  disjoint = λ i j d before within. absurd (omega arith);
  exact = λ cell. (
    λ among. (exact cell).0 (among_one range cell among),
    λ inside. record { range = range; listed = (0, omega arith, refl); inside = (exact cell).1 inside },
  );
}

-- no range tiles the empty set
pub tile_none : (A : Position → Type 0) → ((cell : Position) → ¬ A cell) → Tile [] A
tile_none A empty = record {
  disjoint = λ i j d before within. absurd (omega arith);
  exact = λ cell. (λ among. absurd (omega (arith, among.listed.1)), λ inside. absurd (empty cell inside));
}

-- the same cells, said otherwise
pub tile_same : (xs : List Corners) (S T : Position → Type 0) → ((cell : Position) → S cell ↔ T cell) → Tile xs S → Tile xs T
tile_same xs S T same tiled = record {
  disjoint = tiled.disjoint;
  exact = λ cell. (λ among. (same cell).0 ((tiled.exact cell).0 among), λ inside. (tiled.exact cell).1 ((same cell).1 inside));
}
