-- What a waiting cell has looked at.
use Rattle.std.proofs.Common.{◌≡◌, ◌≢◌, ◌⊎◌, inl, inr, ℕ, ◌+◌, ◌<◌, ◌≤◌, List, length, get_or, take, Some, IsTrue}
use Rattle.std.proofs.Common.{IsFalse, Contains, arith, refl, sym, ap, subst, ◌∙◌}
use Rattle.std.specs.Prelude.{slice_get}
use Rattle.std.proofs.Math.Nat.{eq-or-lt_of_le}
use Rattle.std.proofs.lemmas.List.{take_all}
use Rattle.std.proofs.lemmas.Option.{slice_get_read}
use Rattle.sheet_refs.specs.Cells.{Position, Corners, IsIn, ListsCells, cells_of}
use Rattle.sheet_refs.specs.Sizes.{HoldsPart, is_inside, part_inside}
use Rattle.sheet_refs.specs.declared.sizes.Sizes.{Sizes}
use Rattle.formula_syntax.specs.Listing.{IsOnceEach}
use Rattle.formula_syntax.proofs.Listings.{once_all, once_back}
use Rattle.sheet_model.specs.Sheets.{SheetValue, content_of}
use Rattle.sheet_model.specs.Ranges.{ranges_in}
use Rattle.play_machine.specs.Machine.{is_marked, mark_of}
use Rattle.play_machine.specs.Marking.{HasNoMark, NoneHasMark}
use Rattle.play_machine.specs.Waiting.{HasNoMarkedInput, IsMarkedInput, IsNextMarked, IsSeen, IsWaiter}
use Rattle.play_machine.specs.declared.waiter.Waiter.{Waiter}
use Rattle.sheet_model.proofs.ListLemmas.{taken_more}
use Rattle.play_machine.proofs.MarkLemmas.{marked_from, unmarked_from}
use Rattle.play_machine.proofs.ReadyLemmas.{none_pushed, part_unmarked}

module _ (sizes : Sizes) (marks : List ℕ) (range part : Corners) (is : part ≡ part_inside sizes range) where
  -- one cell more is seen
  pub seen_more : (place : ℕ) (cell : Position) → IsSeen sizes marks range place
      → slice_get (cells_of part) place ≡ Some cell → mark_of sizes marks cell ≡ 0
      → IsSeen sizes marks range (place + 1)
  seen_more place cell seen here none k other below there at = go (eq-or-lt_of_le up_to)
    where
      up_to : k ≤ place
      up_to = omega (arith, below)

      go : (k ≡ place) ⊎ (k < place) → IsFalse (is_marked sizes marks other)
      go (inr before) = seen k other before there at
      go (inl same) = unmarked_from (mark_of sizes marks other) (ap (mark_of sizes marks) same_cell ∙ none)
        where
          same_cell : other ≡ cell
          same_cell = some_same (sym at ∙ ap (slice_get (cells_of (part_inside sizes range))) same
              ∙ ap (λ (p : Corners). slice_get (cells_of p) place) (sym is) ∙ here)
            where
              some_same : Some other ≡ Some cell → other ≡ cell
              some_same h = cc

  pub next_found : (place : ℕ) (cell : Position) → IsSeen sizes marks range place → HoldsPart sizes range part
      → IsIn cell part → mark_of sizes marks cell ≢ 0 → IsNextMarked sizes marks range (place, cell)
  next_found place cell seen holds there some = record { seen = seen; within = ((holds cell).0 there).0; marked = marked_from (mark_of sizes marks cell) some }

  pub all_seen : (place : ℕ) → IsSeen sizes marks range place → HoldsPart sizes range part
      → ListsCells (cells_of part) part → length (cells_of part) ≤ place → HasNoMark sizes marks range
  all_seen place seen holds lists past =
      part_unmarked sizes marks range part place holds lists past
      (λ k cell below there at. seen k cell below there (sym (ap (λ (p : Corners). slice_get (cells_of p) k) is) ∙ at))

some_same : {A : Type 0} {a b : A} → Some a ≡ Some b → a ≡ b
some_same h = cc

-- at first nothing is seen
pub nothing_seen : (sizes : Sizes) (marks : List ℕ) (range : Corners) → IsSeen sizes marks range 0
nothing_seen sizes marks range k cell below there at = absurd (omega (arith, below))

module _ (sheet : SheetValue) (marks : List ℕ) (waiter : Waiter) (is : IsWaiter sheet marks waiter) where
  -- a range more is looked at
  pub looked_more : (range : Corners) (next : Waiter) → waiter.range < length waiter.refs
      → range ≡ get_or waiter.refs waiter.range range → HasNoMark sheet.sizes marks range → next.cell ≡ waiter.cell
      → next.refs ≡ waiter.refs → next.range ≡ waiter.range + 1 → next.place ≡ 0 → IsWaiter sheet marks next
  looked_more range next below at none cell_is refs_are range_is place_is = record {
    inside = subst (λ c. IsTrue (is_inside sheet.sizes c)) (sym cell_is) is.inside;
    refs = subst (λ c. IsOnceEach (ranges_in (content_of sheet c)) next.refs) (sym cell_is)
        (subst (IsOnceEach (ranges_in (content_of sheet waiter.cell))) (sym refs_are) is.refs);
    before = subst (λ n. NoneHasMark sheet.sizes marks (take n next.refs)) (sym range_is)
        (subst (λ r. NoneHasMark sheet.sizes marks (take (waiter.range + 1) r)) (sym refs_are)
        (subst (NoneHasMark sheet.sizes marks) (sym (taken_more waiter.refs waiter.range range below at))
        (none_pushed sheet.sizes marks (take waiter.range waiter.refs) range is.before none)));
    part = λ other here. subst (IsSeen sheet.sizes marks other) (sym place_is) (nothing_seen sheet.sizes marks other);
  }

  -- it has looked at all
  pub looked_at_all : length waiter.refs ≤ waiter.range → HasNoMarkedInput sheet marks waiter.cell
  looked_at_all past input step =
      let listed = once_all (ranges_in (content_of sheet waiter.cell)) waiter.refs step.pair.range is.refs
      (subst (λ (c : Position). Contains (ranges_in (content_of sheet c)) step.pair.range) step.cell_is
      step.of_sheet) in
      is.before step.pair.range (subst (λ rs. Contains rs step.pair.range) (sym (take_all waiter.range waiter.refs past)) listed) input step.inside

  -- it has found a marked cell
  module _ (range : Corners) (place : ℕ) (input : Position) where
    at_range : waiter.range < length waiter.refs → range ≡ get_or waiter.refs waiter.range range → slice_get waiter.refs waiter.range ≡ Some range
    at_range below here = slice_get_read waiter.refs (length waiter.refs) waiter.range range refl below here

    pub stops : (next : Waiter) → waiter.range < length waiter.refs → range ≡ get_or waiter.refs waiter.range range
        → IsNextMarked sheet.sizes marks range (place, input) → next.cell ≡ waiter.cell → next.refs ≡ waiter.refs
        → next.range ≡ waiter.range → next.place ≡ place → IsWaiter sheet marks next
    stops next below here found cell_is refs_are range_is place_is = record {
      inside = subst (λ c. IsTrue (is_inside sheet.sizes c)) (sym cell_is) is.inside;
      refs = subst (λ c. IsOnceEach (ranges_in (content_of sheet c)) next.refs) (sym cell_is)
          (subst (IsOnceEach (ranges_in (content_of sheet waiter.cell))) (sym refs_are) is.refs);
      before = subst (λ n. NoneHasMark sheet.sizes marks (take n next.refs)) (sym range_is)
          (subst (λ r. NoneHasMark sheet.sizes marks (take waiter.range r)) (sym refs_are) is.before);
      part = λ other other_at.
          let same : range ≡ other = some_same (sym (at_range below here) ∙ ap (slice_get waiter.refs) (sym range_is)
          ∙ ap (λ r. slice_get r next.range) (sym refs_are) ∙ other_at) in
          subst (λ r. IsSeen sheet.sizes marks r next.place) same (subst (IsSeen sheet.sizes marks range) (sym place_is) found.seen);
    }

    pub found_input : waiter.range < length waiter.refs → range ≡ get_or waiter.refs waiter.range range
        → IsNextMarked sheet.sizes marks range (place, input) → IsMarkedInput sheet marks waiter.cell input
    found_input below here found = record {
      marked = found.marked;
      step = record {
        pair = record { range = range; cell = waiter.cell };
        of_sheet = once_back (ranges_in (content_of sheet waiter.cell)) waiter.refs range is.refs (waiter.range, below, sym here);
        inside = found.within;
        cell_is = refl;
      };
    }
