-- What a waiter has left, as it looks on.
use Rattle.std.proofs.Common.{◌≡◌, ◌⊎◌, inl, inr, ℕ, suc, ◌+◌, ◌-◌, ◌<◌, ◌≤◌, ◌==◌, true, false, List, [], ◌∷◌, ◌++◌}
use Rattle.std.proofs.Common.{length, get_or, Option, Some, slice_get, arith, refl, sym, ap, subst, ◌∙◌}
use Rattle.std.specs.Prelude.{option_to_list}
use Rattle.std.proofs.lemmas.Bool.Decides.{nat_tests}
use Rattle.std.proofs.lemmas.Option.{same_Some, slice_get-get_or}
use Rattle.std.proofs.lemmas.List.{length-append}
use Rattle.sheet_refs.specs.Cells.{Position, Corners, IsIn}
use Rattle.recalc_plan.specs.Opens.{AreCells, FindsOpen, HasNoneLeft, IsLastIn, IsLeft, IsNowhereIn, IsOpen, LooksOn, Opens}
use Rattle.recalc_plan.specs.declared.waiter.Waiter.{Waiter}
use Rattle.recalc_plan.proofs.ListLemmas.{at_within, at_append, at_pushed}
use Rattle.recalc_plan.proofs.OpenLemmas.{open_named}

pub looks_same : (opens : Opens) (waiter : Waiter) → LooksOn opens waiter waiter
looks_same opens waiter = record { cell_is = refl; less = λ cell is. is; enough = λ cell there is. is }

pub looks_more : (opens : Opens) (a b c : Waiter) → LooksOn opens a b → LooksOn opens b c → LooksOn opens a c
looks_more opens a b c first second = record {
  cell_is = second.cell_is ∙ first.cell_is;
  less = λ cell is. first.less cell (second.less cell is);
  enough = λ cell there is. second.enough cell there (first.enough cell there is);
}

-- the last range is passed, since none of its cells is open
module _ (opens : Opens) (are : AreCells opens) (old new : Waiter) (range : Corners)
    (parts : old.left.items ≡ new.left.items ++ range ∷ []) (whole : new.up_to ≡ 16384)
    (none : IsNowhereIn opens range old.up_to) where
  longer : length old.left.items ≡ length new.left.items + 1
  longer = ap length parts ∙ length-append new.left.items (range ∷ [])

  less : (cell : Position) → IsLeft new cell → IsLeft old cell
  less cell is = record {
    place = is.place;
    range = is.range;
    listed = ap (λ (l : List Corners). slice_get l is.place) parts ∙ at_append new.left.items (range ∷ []) is.place is.range is.listed;
    inside = is.inside;
    last = λ end. absurd (omega (arith, end, longer, at_within new.left.items is.place is.range is.listed));
  }

  enough : (cell : Position) → IsOpen opens cell → IsLeft old cell → IsLeft new cell
  enough cell there is = by_place (at_pushed new.left.items range is.place is.range (ap (λ (l : List Corners). slice_get l is.place) (sym parts) ∙ is.listed))
    where
      by_place : (slice_get new.left.items is.place ≡ Some is.range) ⊎ ((is.place ≡ length new.left.items) × (range ≡ is.range)) → IsLeft new cell
      by_place (inl before) = record {
        place = is.place;
        range = is.range;
        listed = before;
        inside = is.inside;
        last = λ end. subst (λ (n : ℕ). cell.col ≤ n) (sym whole) (open_named opens cell are there).col_to;
      }
      by_place (inr (here, same)) = absurd (none cell (subst (IsIn cell) (sym same) is.inside) (is.last (ap suc here ∙ (omega (arith, longer)))) there)

  pub passed : new.cell ≡ old.cell → LooksOn opens old new
  passed same = record { cell_is = same; less = less; enough = enough }

-- an open cell is found in the last range
module _ (opens : Opens) (old new : Waiter) (range : Corners) (found : Position) (last_place : ℕ)
    (kept : new.left.items ≡ old.left.items) (up_to : new.up_to ≡ found.col)
    (ends : suc last_place ≡ length old.left.items) (here : slice_get old.left.items last_place ≡ Some range)
    (is : IsLastIn opens range old.up_to found) where
  pub narrowed : new.cell ≡ old.cell → LooksOn opens old new
  narrowed same = record {
    cell_is = same;
    less = λ cell left. record {
      place = left.place;
      range = left.range;
      listed = ap (λ (l : List Corners). slice_get l left.place) (sym kept) ∙ left.listed;
      inside = left.inside;
      last = λ end. omega (arith, left.last (end ∙ ap length (sym kept)), up_to, is.within);
    };
    enough = λ cell there left. record {
      place = left.place;
      range = left.range;
      listed = ap (λ (l : List Corners). slice_get l left.place) kept ∙ left.listed;
      inside = left.inside;
      last = λ end. subst (λ (n : ℕ). cell.col ≤ n) (sym up_to) (is.last cell (in_last left (end ∙ ap length kept)) (left.last (end ∙ ap length kept)) there);
    };
  }
    where
      in_last : {cell : Position} (left : IsLeft old cell) → suc left.place ≡ length old.left.items → IsIn cell range
      in_last {cell} left end =
          let same_place : left.place ≡ last_place = omega (arith, end, ends) in
          subst (IsIn cell) (same_Some left.range range (sym left.listed ∙ (ap (slice_get old.left.items) same_place ∙ here))) left.inside

  pub finds : FindsOpen opens old found
  finds = (record { place = last_place; range = range; listed = here; inside = is.inside; last = λ end. is.within }, is.is_open)

pub is_zero : (n : ℕ) → true ≡ (n == 0) → n ≡ 0
is_zero n is = grind (arith, nat_tests)

-- nothing is left in no ranges
pub none_left : (opens : Opens) (waiter : Waiter) (count : ℕ) → count ≡ length waiter.left.items → true ≡ (count == 0) → HasNoneLeft opens waiter
none_left opens waiter count counted empty cell left there =
    absurd (omega (arith, at_within waiter.left.items left.place left.range left.listed, counted, is_zero count empty))

pub not_zero : (n : ℕ) → false ≡ (n == 0) → 0 < n
not_zero n is = grind (arith, nat_tests)

-- the last element, which is taken off a list, was the one at its last place
pub popped : {A : Type 0} (old new : List A) (count : ℕ) (last : A) (found : Option A) → count ≡ length old
    → 0 < length old → old ≡ new ++ option_to_list found
    → ((d : A) → 0 < length old → found ≡ Some (get_or old (length old - 1) d)) → last ≡ get_or old (count - 1) last
    → old ≡ new ++ last ∷ []
popped old new count last found counted some parts value read =
    let is : found ≡ Some last = value last some ∙ ap Some (ap (λ n. get_or old (n - 1) last) (sym counted) ∙ sym read) in
    parts ∙ ap (λ o. new ++ option_to_list o) is

pub last_at : {A : Type 0} (old : List A) (count : ℕ) (last : A) → count ≡ length old → 0 < length old
    → last ≡ get_or old (count - 1) last → slice_get old (length old - 1) ≡ Some last
last_at old count last counted some read =
    slice_get-get_or old (length old - 1) last (omega (arith, some)) ∙ ap Some (ap (λ n. get_or old (n - 1) last) (sym counted) ∙ sym read)

pub none_before : (opens : Opens) (old new : Waiter) → LooksOn opens old new → HasNoneLeft opens new → HasNoneLeft opens old
none_before opens old new looks none cell left there = none cell (looks.enough cell there left) there

pub finds_before : (opens : Opens) (old new : Waiter) (cell : Position) → LooksOn opens old new → FindsOpen opens new cell → FindsOpen opens old cell
finds_before opens old new cell looks (left, there) = (looks.less cell left, there)
