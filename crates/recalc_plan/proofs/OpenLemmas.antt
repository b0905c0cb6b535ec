-- Where open cells stand among the places of names.
use Rattle.std.proofs.Common.{◌≡◌, ℕ, ◌-◌, ◌<◌, ◌≤◌, None, Some, arith, refl, sym, ap, subst, ◌∙◌}
use Rattle.std.specs.Prelude.{IsSome}
use Rattle.std.specs.Ordering.{nat_cmp}
use Rattle.std.specs.BTreeMap.{get}
use Rattle.std.proofs.lemmas.Option.{same_Some}
use Rattle.sheet_refs.specs.Cells.{Position, Corners, IsIn, IsNamed}
use Rattle.recalc_plan.specs.Opens.{AreCells, IsLastIn, IsLastUpTo, IsNowhereIn, IsOpen, NoneUpTo, Opens, WaitsOn, name_place, place_at}
use Rattle.recalc_plan.specs.declared.opens.Open.{Open}

-- an open cell has a name
pub open_named : (opens : Opens) (cell : Position) → AreCells opens → IsOpen opens cell → IsNamed cell.row cell.col
open_named opens cell are is = subst (λ (c : Position). IsNamed c.row c.col) is.cell_is (are (name_place cell) is.entry is.kept).1

-- where a cell waits, the other one is open
pub input_open : (opens : Opens) (input : Position) (waiter : _) → WaitsOn opens input waiter → IsOpen opens input
input_open opens input waiter on = record { entry = on.entry; kept = on.kept; cell_is = on.cell_is }

-- something stands at the place of an open cell
pub is_there : (opens : Opens) (cell : Position) → IsOpen opens cell → IsSome (get nat_cmp opens (name_place cell))
is_there opens cell is = subst IsSome (sym is.kept) refl

-- two cells at one place
pub one_place : (a b : Position) → IsNamed a.row a.col → IsNamed b.row b.col → name_place a ≡ name_place b → a ≡ b
one_place a b na nb same =
    let row : a.row ≡ b.row = omega (arith, na.row_from, na.row_to, na.col_from, nb.row_from, nb.row_to, nb.col_from, same) in
    let col : a.col ≡ b.col = omega (arith, na.row_from, na.row_to, na.col_from, nb.row_from, nb.row_to, nb.col_from, same) in
    ◌∙◌ {b = record { row = b.row; col = a.col }} (ap (λ (r : ℕ). record { row = r; col = a.col }) row) (ap (λ (c : ℕ). record { row = b.row; col = c }) col)

-- ---- the last open cell of a range

module _ (opens : Opens) (are : AreCells opens) (range : Corners) (up_to : ℕ) (high : 1 ≤ range.tail.row) (low : range.tail.row ≤ 1048576) where
  -- no open cell of the range, up to some column, stands behind another one
  abbrev pub NoneBehind : ℕ → Type 0
  NoneBehind col = (other : Position) → IsIn other range → other.col ≤ up_to → IsOpen opens other → other.col ≤ col

  -- the last one up to the bottom of a column: all others up to this column are at places before it
  before_last : (col : ℕ) (last other : Position) → NoneBehind col → IsLastUpTo opens (place_at col range.tail.row) last
      → IsIn other range → other.col ≤ up_to → IsOpen opens other → name_place other ≤ name_place last
  before_last col last other none is inside within there =
      let named = open_named opens other are there in
      let near = none other inside within there in
      is.last (name_place other) (omega (arith, named.row_from, named.row_to, named.col_from, near, inside.row_to, low)) (is_there opens other there)

  pub nowhere : (col : ℕ) → NoneBehind col → NoneUpTo opens (place_at col range.tail.row) → IsNowhereIn opens range up_to
  nowhere col none empty other inside within there =
      let named = open_named opens other are there in
      let near = none other inside within there in
      let nothing = empty (name_place other) (omega (arith, named.row_from, named.row_to, named.col_from, near, inside.row_to, low)) in
      absurd (empty_place (name_place other) nothing (is_there opens other there))
    where
      empty_place : (place : ℕ) → get nat_cmp opens place ≡ None → IsSome (get nat_cmp opens place) → ⊥
      empty_place place none some = conflict (subst IsSome none some)
        where
          conflict : IsSome {T = Open} None → ⊥
          conflict h = cc

  pub last_is : (col : ℕ) (last : Position) → NoneBehind col → IsLastUpTo opens (place_at col range.tail.row) last
      → col ≤ up_to → last.col ≡ col → range.head.row ≤ last.row → range.head.col ≤ col → col ≤ range.tail.col
      → IsLastIn opens range up_to last
  last_is col last none is within here below from to = record {
    is_open = is.is_open;
    inside = record {
      row_from = below;
      row_to = omega (arith, is.within, here, high, is.named.row_from, is.named.row_to, is.named.col_from, low);
      col_from = omega (arith, here, from);
      col_to = omega (arith, here, to);
    };
    within = omega (arith, here, within);
    last = λ other inside inner there. omega (arith, here, none other inside inner there);
  }

  pub go_left : (col : ℕ) (last : Position) → NoneBehind col → IsLastUpTo opens (place_at col range.tail.row) last → last.col < col → NoneBehind last.col
  go_left col last none is left other inside within there =
      let named = open_named opens other are there in
      omega (
        arith,
        before_last col last other none is inside within there,
        named.row_from,
        named.row_to,
        named.col_from,
        is.named.row_from,
        is.named.row_to,
        is.named.col_from,
      )

  pub go_on : (col : ℕ) (last : Position) → NoneBehind col → IsLastUpTo opens (place_at col range.tail.row) last
      → 1 ≤ col → last.col ≡ col → last.row < range.head.row → NoneBehind (col - 1)
  go_on col last none is from here above other inside within there =
      let named = open_named opens other are there in
      let near = none other inside within there in
      omega (
        arith,
        before_last col last other none is inside within there,
        near,
        inside.row_from,
        above,
        here,
        from,
        named.row_from,
        named.row_to,
        named.col_from,
        is.named.row_from,
        is.named.row_to,
        is.named.col_from,
      )

  pub not_right : (col : ℕ) (last : Position) → 1 ≤ col → IsLastUpTo opens (place_at col range.tail.row) last → last.col ≤ col
  not_right col last from is = omega (arith, is.within, from, high, low, is.named.row_from, is.named.row_to, is.named.col_from)

-- ---- the last entry up to a place

pub last_open : (opens : Opens) → AreCells opens → (key : ℕ) (entry : Open) (place : ℕ)
    → get nat_cmp opens key ≡ Some entry → key ≤ place → ((other : ℕ) → other ≤ place → IsSome (get nat_cmp opens other)
    → other ≤ key) → IsLastUpTo opens place entry.cell
last_open opens are key entry place kept within last =
    let here = (are key entry kept).0 in
    record {
      is_open = record { entry = entry; kept = ap (get nat_cmp opens) here ∙ kept; cell_is = refl };
      named = (are key entry kept).1;
      within = subst (λ (k : ℕ). k ≤ place) (sym here) within;
      last = λ other below some. subst (λ (k : ℕ). other ≤ k) (sym here) (last other below some);
    }

-- two open cells at one place are one
pub one_at : (opens : Opens) (a b : Position) → name_place a ≡ name_place b → IsOpen opens a → IsOpen opens b → a ≡ b
one_at opens a b same is other =
    sym is.cell_is ∙ (ap (λ (e : Open). e.cell) (same_Some is.entry other.entry (sym is.kept ∙ (ap (get nat_cmp opens) same ∙ other.kept))) ∙ other.cell_is)
