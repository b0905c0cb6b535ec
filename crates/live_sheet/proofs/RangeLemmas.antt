-- The range that a firm look computes, and that of all cells.
use Rattle.std.proofs.Common.{◌≡◌, ◌⊎◌, inl, inr, ℕ, ◌*◌, ◌≤◌, List, [], ◌∷◌, IsTrue, length, get_or, refl, sym, subst, arith}
use Rattle.std.specs.Prelude.{All, Contains}
use Rattle.std.proofs.lemmas.List.Elements.{All-contains, All-push, Contains-get_or}
use Rattle.sheet_refs.specs.Cells.{Position, Corners, IsIn, IsNamed}
use Rattle.sheet_refs.specs.Rectangles.{AreDisjoint, IsAmong}
use Rattle.sheet_refs.specs.Sizes.{is_inside}
use Rattle.sheet_refs.specs.declared.sizes.Sizes.{Sizes}
use Rattle.sheet_refs.proofs.Places.{inside_bounds}
use Rattle.sheet_refs.proofs.Tiles.{among_one}
use Rattle.sheet_model.specs.Sheets.{IsSheetSize}
use Rattle.live_sheet.specs.Stale.{IsListedOr, KnowsAllBut}

-- a number of rows isn't more than that of the cells
at_least : (rows cols : ℕ) → 1 ≤ cols → rows ≤ rows * cols
at_least rows cols some = grind arith

-- where the last cell has no name there is none
pub none_inside : (sizes : Sizes) → IsSheetSize sizes → ¬ IsNamed sizes.rows sizes.cols → (cell : Position) → ¬ IsTrue (is_inside sizes cell)
none_inside sizes size unnamed cell inside =
    let at = inside_bounds sizes cell inside in
    let few = at_least sizes.rows sizes.cols (omega (arith, at.col_from, at.col_to)) in
    unnamed (record {
      row_from = omega (arith, at.row_from, at.row_to);
      row_to = omega (arith, few, size.cells);
      col_from = omega (arith, at.col_from, at.col_to);
      col_to = size.narrow;
    })

-- a list of one range is disjoint
pub lone_disjoint : (range : Corners) → AreDisjoint (range ∷ [])
lone_disjoint range = λ i j d before within. absurd (omega (arith, before, within))

-- where no cell of a range is stale, each is known
pub none_stale : {Knows : Position → Type 0} (range : Corners) (stale : List Position) → KnowsAllBut Knows (IsAmong (range ∷ [])) stale
    → length stale ≡ 0 → (cell : Position) → IsIn cell range → Knows cell
none_stale range stale all none cell inside = elim (all.each cell (record { range = range; listed = (0, omega arith, refl); inside = inside })) [
  | inl knows ↦ knows
  | inr there ↦ (let below = there.1 in absurd (omega (arith, none, below)))
]

-- the stale cells of a range lie in it
pub stale_inside : {Knows : Position → Type 0} (sizes : Sizes) (range : Corners) (stale : List Position)
    → KnowsAllBut Knows (IsAmong (range ∷ [])) stale → ((cell : Position) → IsIn cell range → IsTrue (is_inside sizes cell))
    → All (λ cell. IsTrue (is_inside sizes cell)) stale
stale_inside sizes range stale left inside = λ k d below.
    inside (get_or stale k d) (among_one range (get_or stale k d) (left.of_set (get_or stale k d) (Contains-get_or stale k d below)))

-- once the stale ones are known, each cell of the range is
pub all_of_range : {Knows : Position → Type 0} (More : Position → Type 0) (range : Corners) (stale : List Position)
    → KnowsAllBut Knows (IsAmong (range ∷ [])) stale → ((cell : Position) → Knows cell → More cell) → All More stale
    → (cell : Position) → IsIn cell range → More cell
all_of_range More range stale left more known cell inside =
    elim (left.each cell (record { range = range; listed = (0, omega arith, refl); inside = inside })) [
      | inl knows ↦ more cell knows
      | inr there ↦ All-contains More stale cell known there
    ]

-- what is so of a cell, and of each that was listed, is so of each that is listed once the cell was listed or not
pub all_listed : (Knows P : Position → Type 0) (cell : Position) (old new : List Position)
    → IsListedOr Knows cell old new → All P old → P cell → All P new
all_listed Knows P cell old new (inl same) all here = subst (All P) (sym same.1) all
all_listed Knows P cell old new (inr more) all here = subst (All P) (sym more) (All-push P old cell all here)
