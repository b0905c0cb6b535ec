-- Which cells are ready, and the first cell that is such as is asked for.
use Rattle.std.proofs.Common.{◌≡◌, ◌⊎◌, inl, inr, ℕ, ◌+◌, ◌<◌, ◌≤◌, Bool, true, false, List, [], ◌∷◌, ◌++◌, length}
use Rattle.std.proofs.Common.{IsTrue, IsFalse, Contains, arith, refl, sym, ap, subst, ◌∙◌}
use Rattle.std.specs.Prelude.{slice_get, Some}
use Rattle.std.proofs.Math.Nat.{eq-or-lt_of_le}
use Rattle.std.proofs.lemmas.List.Elements.{Contains-append_cases}
use Rattle.std.proofs.lemmas.Option.{slice_get-get_or}
use Rattle.sheet_refs.specs.Cells.{Position, Corners, IsIn, ListsCells, cells_of}
use Rattle.sheet_refs.specs.Sizes.{HoldsPart, MissesRange, is_inside, cell_count, place_of}
use Rattle.sheet_refs.specs.declared.sizes.Sizes.{Sizes}
use Rattle.sheet_refs.proofs.Places.{place-lt, place_same}
use Rattle.formula_syntax.specs.Listing.{IsOnceEach}
use Rattle.formula_syntax.proofs.Listings.{once_all}
use Rattle.sheet_model.specs.Sheets.{SheetValue, content_of}
use Rattle.sheet_model.specs.Ranges.{ranges_in}
use Rattle.play_machine.specs.Machine.{IsFirstCell, IsNowhere, IsReady, is_marked, mark_of}
use Rattle.play_machine.specs.Marking.{HasNoMark, NoneHasMark}
use Rattle.sheet_model.proofs.ListMembers.{only_member}
use Rattle.play_machine.proofs.MarkLemmas.{mark_outside, not_both, unmarked_from}

-- a cell past the rectangle isn't marked
pub outside_unmarked : (sizes : Sizes) (marks : List ℕ) (cell : Position) → IsFalse (is_inside sizes cell) → IsFalse (is_marked sizes marks cell)
outside_unmarked sizes marks cell outside = unmarked_from (mark_of sizes marks cell) (mark_outside sizes marks cell outside)

-- no cell of a range is marked where none of its part in the rectangle is
pub part_unmarked : (sizes : Sizes) (marks : List ℕ) (range part : Corners) (place : ℕ) → HoldsPart sizes range part
    → ListsCells (cells_of part) part → length (cells_of part) ≤ place → ((k : ℕ) (cell : Position) → k < place → IsIn cell range
    → slice_get (cells_of part) k ≡ Some cell → IsFalse (is_marked sizes marks cell)) → HasNoMark sizes marks range
part_unmarked sizes marks range part place holds lists past unmarked cell there = go (is_inside sizes cell) refl
  where
    go : (b : Bool) → is_inside sizes cell ≡ b → IsFalse (is_marked sizes marks cell)
    go false outside = outside_unmarked sizes marks cell outside
    go true inside =
        let listed = (lists cell).1 ((holds cell).1 (there, inside)) in
        let k = listed.0 in
        let below : k < length (cells_of part) = listed.1 in
        unmarked k cell (omega (arith, below, past)) there (slice_get-get_or (cells_of part) k cell below ∙ ap Some listed.2)

pub missed_unmarked : (sizes : Sizes) (marks : List ℕ) (range : Corners) → MissesRange sizes range → HasNoMark sizes marks range
missed_unmarked sizes marks range misses cell there = outside_unmarked sizes marks cell (misses cell there)

-- whose mark is 0 isn't ready
pub unready : (sheet : SheetValue) (marks : List ℕ) (cell : Position) → mark_of sheet.sizes marks cell ≡ 0 → ¬ IsReady sheet marks cell
unready sheet marks cell none ready = not_both (is_marked sheet.sizes marks cell) ready.marked (unmarked_from (mark_of sheet.sizes marks cell) none)

module _ (sheet : SheetValue) (marks : List ℕ) (cell : Position) where
  -- a cell without references is ready where it is marked
  pub ready_alone : ranges_in (content_of sheet cell) ≡ [] → IsTrue (is_marked sheet.sizes marks cell) → IsReady sheet marks cell
  ready_alone none marked =
      record {
        marked = marked;
        inputs = λ input step. absurd
            (no_range step.pair.range (subst (λ rs. Contains rs step.pair.range) none
            (subst (λ (c : Position). Contains (ranges_in (content_of sheet c)) step.pair.range) step.cell_is step.of_sheet)));
      }
    where
      no_range : (range : Corners) → Contains [] range → ⊥
      no_range range there = absurd (omega (arith, there))

  -- a marked cell none of whose ranges has a marked one is
  pub ready_all : (ranges : List Corners) → IsOnceEach (ranges_in (content_of sheet cell)) ranges
      → NoneHasMark sheet.sizes marks ranges → IsTrue (is_marked sheet.sizes marks cell) → IsReady sheet marks cell
  ready_all ranges once none marked = record {
    marked = marked;
    inputs = λ input step.
        let listed = once_all (ranges_in (content_of sheet cell)) ranges step.pair.range once
        (subst (λ (c : Position). Contains (ranges_in (content_of sheet c)) step.pair.range) step.cell_is
        step.of_sheet) in
        none step.pair.range listed input step.inside;
  }

-- the cells before a place are not such; nor are those up to it, where the one there isn't
module _ (sizes : Sizes) (Such : Position → Type 0) where
  abbrev pub NoneBefore : ℕ → Type 0
  NoneBefore place = (cell : Position) → IsTrue (is_inside sizes cell) → place_of sizes cell < place → ¬ Such cell

  pub none_more : (place : ℕ) (cell : Position) → NoneBefore place → IsTrue (is_inside sizes cell)
      → place_of sizes cell ≡ place → ¬ Such cell → NoneBefore (place + 1)
  none_more place cell none inside here not other there below such = go (eq-or-lt_of_le up_to)
    where
      up_to : place_of sizes other ≤ place
      up_to = omega (arith, below)

      go : (place_of sizes other ≡ place) ⊎ (place_of sizes other < place) → ⊥
      go (inl same) = not (subst Such (place_same sizes other cell there inside (same ∙ sym here)) such)
      go (inr before) = none other there before such

  pub none_at_all : (place : ℕ) → cell_count sizes ≤ place → NoneBefore place → IsNowhere sizes Such
  none_at_all place past none cell inside = none cell inside (let below = place-lt sizes cell inside in omega (arith, below, past))

  pub first_here : (place : ℕ) (cell : Position) → NoneBefore place → IsTrue (is_inside sizes cell)
      → place_of sizes cell ≡ place → Such cell → IsFirstCell sizes Such cell
  first_here place cell none inside here such = record {
    inside = inside;
    such = such;
    first = λ other there below. none other there (omega (arith, below, here));
  }

-- one range more, of which none is marked
pub none_pushed : (sizes : Sizes) (marks : List ℕ) (ranges : List Corners) (range : Corners)
    → NoneHasMark sizes marks ranges → HasNoMark sizes marks range → NoneHasMark sizes marks (ranges ++ range ∷ [])
none_pushed sizes marks ranges range none last other listed = go (Contains-append_cases ranges (range ∷ []) other listed)
  where
    go : Contains ranges other ⊎ Contains (range ∷ []) other → HasNoMark sizes marks other
    go (inl before) = none other before
    go (inr here) = subst (HasNoMark sizes marks) (sym (only_member range other here)) last
