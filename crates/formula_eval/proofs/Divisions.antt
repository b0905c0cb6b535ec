-- MOD and QUOTIENT by the equations that define them, and how COUNTA and COUNTBLANK share the cells of a range.
use Rattle.std.proofs.Common.{◌≡◌, ◌≢◌, ℕ, zero, suc, ◌+◌, ◌*◌, ◌/◌, ◌%◌, ◌<◌, ◌≤◌, ℤ, pos, negsuc, nat_abs, ◌+ℤ◌, ◌*ℤ◌}
use Rattle.std.proofs.Common.{◌≤ℤ◌, Bool, true, false, map, length, filter, refl, sym, ◌∙◌, ap, arith, inl, inr}
use Rattle.std.specs.Prelude.{neg_ℤ, int_lt, int_div, int_rem}
use Rattle.std.specs.Int.{int_rem_euclid}
use Rattle.std.specs.Ordering.{int_eq}
use Rattle.std.proofs.Math.IntN.{*ℤ-negsuc, neg_ℤ-+ℤ, neg_ℤ-neg_ℤ}
use Rattle.std.proofs.lemmas.Bool.Decides.{nat_tests, Decides-int_eq}
use Rattle.std.proofs.lemmas.Int.{ints, quot-rem}
use Rattle.std.proofs.lemmas.List.{append-nil}
use Rattle.sheet_refs.specs.Cells.{cells_of}
use Rattle.sheet_refs.specs.Ends.{corners_of}
use Rattle.value_core.specs.declared.value.Value.TheVariants.{Number}
use Rattle.value_core.specs.Conversions.{never_empty}
use Rattle.value_core.specs.Wholes.{IsWhole}
use Rattle.value_core.proofs.ArithmeticLemmas.{whole_by_size, size_of_whole, size_of_neg, in_range-in, whole_quotient}
use Rattle.formula_syntax.specs.declared.functions.Function.TheVariants.{Mod, Quotient}
use Rattle.formula_eval.specs.Functions.{floor_remainder, division_value}
use Rattle.formula_eval.specs.Items.{is_empty, items_of_cells}
use Rattle.formula_eval.specs.Laws.{IsBetweenZeroAnd, IsRemainder, IsCutQuotient, CountsAreAllCells, GivesOfTwo, RefusesZero, RemainderRows, QuotientRows}
use Rattle.formula_eval.proofs.ClipLemmas.{items_and_empty, mapped_length}
use Rattle.formula_eval.proofs.TallyLemmas.{counta_ok}

false_test : (b : Bool) → (b ≡ true → ⊥) → b ≡ false
false_test true never = absurd (never refl)
false_test false never = refl

not_zero : (n : ℤ) → n ≢ pos 0 → int_eq n (pos 0) ≡ false
not_zero n some = false_test (int_eq n (pos 0)) (λ same. some ((Decides-int_eq n (pos 0)).0 same))

-- what is left over a multiple of a number above 0
over_multiple : (m : ℤ) (k : ℕ) → 0 < k → IsRemainder m (pos k) (int_rem_euclid m (pos k))
over_multiple (pos a) k some = (pos (a / k), ap pos (omega arith), inl (omega (arith, ints), omega (arith, ints)))
over_multiple (negsuc a) k some =
    let whole : suc (a / k) * k ≡ k * (a / k) + k = omega arith in
    let parts : k * (a / k) + a % k ≡ a = omega arith in
    let small : a % k < k = omega arith in
    (negsuc (a / k), omega (arith, ints, whole, parts, small), inl (omega (arith, ints), omega (arith, ints, small)))

opposite_sides : (n r : ℤ) → IsBetweenZeroAnd n r → IsBetweenZeroAnd (neg_ℤ n) (neg_ℤ r)
opposite_sides n r (inl (low, high)) = inr (omega (arith, ints, high), omega (arith, ints, low))
opposite_sides n r (inr (low, high)) = inl (omega (arith, ints, high), omega (arith, ints, low))

-- the same of the opposite numbers
opposite : (m r : ℤ) (k : ℕ) → IsRemainder (neg_ℤ m) (pos (suc k)) r → IsRemainder m (negsuc k) (neg_ℤ r)
opposite m r k (q, is, between) =
    (q, ap (λ z. z +ℤ neg_ℤ r) (*ℤ-negsuc q k) ∙ sym (neg_ℤ-+ℤ (q *ℤ pos (suc k)) r) ∙ ap neg_ℤ is ∙ neg_ℤ-neg_ℤ m, opposite_sides (pos (suc k)) r between)

floored : (m n : ℤ) → n ≢ pos 0 → IsRemainder m n (floor_remainder m n)
floored m (pos k) some =
    let above : int_lt (pos k) (pos 0) ≡ false = grind (arith, nat_tests) in
    let more : 0 < k = positive k some in
    rw above (over_multiple m k more)
  where
    positive : (k : ℕ) → pos k ≢ pos 0 → 0 < k
    positive zero some = absurd (some refl)
    positive (suc k) some = omega arith
floored m (negsuc k) some = opposite m (int_rem_euclid (neg_ℤ m) (pos (suc k))) k (over_multiple (neg_ℤ m) (suc k) (omega arith))

size_between : (n r : ℤ) → IsBetweenZeroAnd n r → nat_abs r ≤ nat_abs n
size_between n r (inl (low, high)) = omega (arith, ints, low, high)
size_between n r (inr (low, high)) = omega (arith, ints, low, high)

remainder_whole : (m n : ℤ) → IsWhole n → n ≢ pos 0 → IsWhole (floor_remainder m n)
remainder_whole m n h some =
    let (q, is, between) = floored m n some in
    whole_by_size (floor_remainder m n) (omega (arith, size_between n (floor_remainder m n) between, size_of_whole n h))

-- a division by a number other than 0, with a result in range
divided : (f : ℤ → ℤ → ℤ) (m n : ℤ) → n ≢ pos 0 → IsWhole (f m n) → never_empty (division_value f m n) ≡ Number (f m n)
divided f m n some whole = rw (not_zero n some, in_range-in (f m n) whole) refl

pub mod_law : GivesOfTwo Mod IsRemainder
mod_law values a b m n first second left right some =
    (floor_remainder m n, rw (first, second) (divided floor_remainder m n some (remainder_whole m n right some)), floored m n some)

pub mod_zero : RefusesZero Mod
mod_zero values a b m first second = rw (first, second) refl

-- what is left behind a cut quotient
rem_size : (m n : ℤ) → n ≢ pos 0 → nat_abs (int_rem m n) < nat_abs n
rem_size m (pos zero) some = absurd (some refl)
rem_size (pos a) (pos (suc k)) some = omega arith
rem_size (negsuc a) (pos (suc k)) some = omega (arith, size_of_neg (pos (suc a % suc k)))
rem_size (pos a) (negsuc k) some = omega arith
rem_size (negsuc a) (negsuc k) some = omega (arith, size_of_neg (pos (suc a % suc k)))

rem_above : (m n : ℤ) → pos 0 ≤ℤ m → pos 0 ≤ℤ int_rem m n
rem_above (pos a) n h = omega (arith, ints)
rem_above (negsuc a) n h = absurd (omega (arith, ints, h))

rem_below : (m n : ℤ) → m ≤ℤ pos 0 → int_rem m n ≤ℤ pos 0
rem_below (pos zero) n h = omega (arith, ints)
rem_below (pos (suc a)) n h = absurd (omega (arith, ints, h))
rem_below (negsuc a) n h = omega (arith, ints)

pub quotient_law : GivesOfTwo Quotient IsCutQuotient
quotient_law values a b m n first second left right some = (
  int_div m n,
  rw (first, second) (divided int_div m n some (whole_quotient m n left)),
  (int_rem m n, quot-rem m n, rem_size m n some, rem_above m n, rem_below m n),
)

pub quotient_zero : RefusesZero Quotient
quotient_zero values a b m first second = rw (first, second) refl

pub counts_law : CountsAreAllCells
counts_law values r =
    let cells = map values (cells_of (corners_of r)) in
    let items = items_of_cells cells in
    let counted = counta_ok items in (
      length counted.0,
      length (filter is_empty cells),
      rw (append-nil items, counted.1) refl,
      refl,
      omega (arith, counted.2, items_and_empty cells, mapped_length values (cells_of (corners_of r))),
    )

row_below : (q r : ℤ) (m : ℤ) → m ≡ negsuc 6 → q *ℤ pos 3 +ℤ r ≡ m → IsBetweenZeroAnd (pos 3) r → r ≡ pos 2
row_below q r m is e (inl (low, high)) = omega (arith, ints, low, high, e, is)
row_below q r m is e (inr (low, high)) = absurd (omega (arith, ints, low, high))

row_above : (q r : ℤ) → q *ℤ negsuc 2 +ℤ r ≡ pos 7 → IsBetweenZeroAnd (negsuc 2) r → r ≡ negsuc 1
row_above q r e (inl (low, high)) = absurd (omega (arith, ints, low, high))
row_above q r e (inr (low, high)) = omega (arith, ints, low, high, e)

row_both : (q r : ℤ) → q *ℤ negsuc 2 +ℤ r ≡ negsuc 6 → IsBetweenZeroAnd (negsuc 2) r → r ≡ negsuc 0
row_both q r e (inl (low, high)) = absurd (omega (arith, ints, low, high))
row_both q r e (inr (low, high)) = omega (arith, ints, low, high, e)

pub remainder_rows : RemainderRows
remainder_rows = (
  (λ r (q, e, between). row_below q r (negsuc 6) refl e between),
  (λ r (q, e, between). row_above q r e between),
  (λ r (q, e, between). row_both q r e between),
)

cut_below : (q r : ℤ) → q *ℤ pos 3 +ℤ r ≡ negsuc 6 → nat_abs r < 3 → r ≤ℤ pos 0 → q ≡ negsuc 1
cut_below q r e small sign = omega (arith, ints, e, small, sign)

cut_above : (q r : ℤ) → q *ℤ negsuc 2 +ℤ r ≡ pos 7 → nat_abs r < 3 → pos 0 ≤ℤ r → q ≡ negsuc 1
cut_above q r e small sign = omega (arith, ints, e, small, sign)

cut_both : (q r : ℤ) → q *ℤ negsuc 2 +ℤ r ≡ negsuc 6 → nat_abs r < 3 → r ≤ℤ pos 0 → q ≡ pos 2
cut_both q r e small sign = omega (arith, ints, e, small, sign)

pub quotient_rows : QuotientRows
quotient_rows = (
  (λ q (r, e, small, above, below). cut_below q r e small (below (omega (arith, ints)))),
  (λ q (r, e, small, above, below). cut_above q r e small (above (omega (arith, ints)))),
  (λ q (r, e, small, above, below). cut_both q r e small (below (omega (arith, ints)))),
)
