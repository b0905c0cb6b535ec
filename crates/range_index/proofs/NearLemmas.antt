-- A range that overlaps a query stands at a home near it.
use Rattle.std.proofs.Common.{◌≡◌, ◌⊎◌, inl, inr, ℕ, ◌-◌, ◌/◌, ◌<◌, ◌≤◌, Bool, true, false, nat_le, if◌then◌else◌, refl, sym, ap, subst, arith}
use Rattle.std.proofs.Math.Nat.{div-mul-le_self, le-div_iff_mul-le}
use Rattle.std.proofs.lemmas.Bool.Decides.{nat_tests}
use Rattle.sheet_refs.specs.Cells.{Corners, height, width}
use Rattle.sheet_refs.specs.Rectangles.{Overlap}
use Rattle.range_index.specs.declared.tiles.Home.{Home}
use Rattle.range_index.specs.declared.tiles.Slot.{Slot}
use Rattle.range_index.specs.Grids.{tile_height, tile_width, home_of, IsNear, IsNearAt}

div_grows : (a b n : ℕ) → 0 < n → a ≤ b → a / n ≤ b / n
div_grows a b n some less = (le-div_iff_mul-le some).1 (omega (arith, div-mul-le_self a n, less))

-- the four heights and the three widths
abbrev pub IsOneOf : ℕ → ℕ → ℕ → ℕ → Type 0
IsOneOf a b c n = (n ≡ a) ⊎ ((n ≡ b) ⊎ (n ≡ c))

choose : (a b c : ℕ) (v w : Bool) → IsOneOf a b c (if v then a else (if w then b else c))
choose a b c true w = inl refl
choose a b c false true = inr (inl refl)
choose a b c false false = inr (inr refl)

abbrev pub IsHeight : ℕ → Type 0
IsHeight n = (n ≡ 8) ⊎ IsOneOf 1024 32768 1048576 n

pub heights : (rows : ℕ) → IsHeight (tile_height rows)
heights rows = by (nat_le rows 8)
  where
    by : (v : Bool) → IsHeight (if v then 8 else (if nat_le rows 1024 then 1024 else (if nat_le rows 32768 then 32768 else 1048576)))
    by true = inl refl
    by false = inr (choose 1024 32768 1048576 (nat_le rows 1024) (nat_le rows 32768))

pub widths : (cols : ℕ) → IsOneOf 1 64 16384 (tile_width cols)
widths cols = choose 1 64 16384 (nat_le cols 1) (nat_le cols 64)

-- a tile is as high and as wide as what stands at it
high_enough : (rows : ℕ) → rows ≤ 1048576 → rows ≤ tile_height rows
high_enough rows small = by (nat_le rows 8) (nat_le rows 1024) (nat_le rows 32768) refl refl refl
  where
    by : (a b c : Bool) → nat_le rows 8 ≡ a → nat_le rows 1024 ≡ b → nat_le rows 32768 ≡ c
        → rows ≤ (if a then 8 else (if b then 1024 else (if c then 32768 else 1048576)))
    by true b c e f g = grind (arith, nat_tests, e)
    by false true c e f g = grind (arith, nat_tests, f)
    by false false true e f g = grind (arith, nat_tests, g)
    by false false false e f g = small

wide_enough : (cols : ℕ) → cols ≤ 16384 → cols ≤ tile_width cols
wide_enough cols small = by (nat_le cols 1) (nat_le cols 64) refl refl
  where
    by : (a b : Bool) → nat_le cols 1 ≡ a → nat_le cols 64 ≡ b → cols ≤ (if a then 1 else (if b then 64 else 16384))
    by true b e f = grind (arith, nat_tests, e)
    by false true e f = grind (arith, nat_tests, f)
    by false false e f = small

some_height : (rows : ℕ) → 0 < tile_height rows
some_height rows = elim (heights rows) [
  | inl e ↦ omega (arith, e)
  | inr other ↦ elim other [
    | inl e ↦ omega (arith, e)
    | inr higher ↦ elim higher [ inl e ↦ omega (arith, e) | inr e ↦ omega (arith, e) ]
  ]
]

some_width : (cols : ℕ) → 0 < tile_width cols
some_width cols = elim (widths cols) [
  | inl e ↦ omega (arith, e)
  | inr other ↦ elim other [ inl e ↦ omega (arith, e) | inr e ↦ omega (arith, e) ]
]

-- the home of a range that overlaps a query is near the query, among those of its kind
near_of_kind : (query range : Corners) (slot : Slot) → height range ≤ 1048576 → width range ≤ 16384
    → slot.home ≡ home_of range → Overlap range query
    → IsNear query (tile_height (height range)) (tile_width (width range)) slot
near_of_kind query range slot high wide here (cell, both) = record {
  height_is = ap (λ (h : Home). h.height) here;
  width_is = ap (λ (h : Home). h.width) here;
  row_from =
      subst (λ n. (query.head.row - H) / H ≤ n) (sym row) (div_grows (query.head.row - H) (range.head.row - 1) H
      (some_height (height range)) (omega (
        arith,
        both.first.row_from,
        both.first.row_to,
        both.second.row_from,
        high_enough (height range) high,
      )));
  row_to =
      subst (λ n. n ≤ (query.tail.row - 1) / H) (sym row) (div_grows (range.head.row - 1) (query.tail.row - 1) H
      (some_height (height range)) (omega (arith, both.first.row_from, both.second.row_to)));
  col_from =
      subst (λ n. (query.head.col - W) / W ≤ n) (sym col) (div_grows (query.head.col - W) (range.head.col - 1) W
      (some_width (width range)) (omega (
        arith,
        both.first.col_from,
        both.first.col_to,
        both.second.col_from,
        wide_enough (width range) wide,
      )));
  col_to =
      subst (λ n. n ≤ (query.tail.col - 1) / W) (sym col) (div_grows (range.head.col - 1) (query.tail.col - 1) W
      (some_width (width range)) (omega (arith, both.first.col_from, both.second.col_to)));
}
  where
    H : ℕ
    H = tile_height (height range)

    W : ℕ
    W = tile_width (width range)

    row : slot.home.row ≡ (range.head.row - 1) / H
    row = ap (λ (h : Home). h.row) here

    col : slot.home.col ≡ (range.head.col - 1) / W
    col = ap (λ (h : Home). h.col) here

-- so it is among those of the four heights and three widths
near_at : (query : Corners) (H W : ℕ) (slot : Slot) → IsOneOf 1 64 16384 W → IsNear query H W slot → IsNearAt query H slot
near_at query H W slot (inl e) near = inl (subst (λ w. IsNear query H w slot) e near)
near_at query H W slot (inr (inl e)) near = inr (inl (subst (λ w. IsNear query H w slot) e near))
near_at query H W slot (inr (inr e)) near = inr (inr (subst (λ w. IsNear query H w slot) e near))

pub near : (query range : Corners) (slot : Slot) → height range ≤ 1048576 → width range ≤ 16384
    → slot.home ≡ home_of range → Overlap range query → IsNearAt query 8 slot
    ⊎ (IsNearAt query 1024 slot ⊎ (IsNearAt query 32768 slot ⊎ IsNearAt query 1048576 slot))
near query range slot high wide here overlap =
    by (tile_height (height range)) (heights (height range)) (near_at query (tile_height (height range))
    (tile_width (width range)) slot (widths (width range)) (near_of_kind query range slot high wide here overlap))
  where
    by : (H : ℕ) → IsHeight H → IsNearAt query H slot → IsNearAt query 8 slot
        ⊎ (IsNearAt query 1024 slot ⊎ (IsNearAt query 32768 slot ⊎ IsNearAt query 1048576 slot))
    by H (inl e) n = inl (subst (λ h. IsNearAt query h slot) e n)
    by H (inr (inl e)) n = inr (inl (subst (λ h. IsNearAt query h slot) e n))
    by H (inr (inr (inl e))) n = inr (inr (inl (subst (λ h. IsNearAt query h slot) e n)))
    by H (inr (inr (inr e))) n = inr (inr (inr (subst (λ h. IsNearAt query h slot) e n)))
