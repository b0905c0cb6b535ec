-- The places of the cells that an entry touches, and that these have one list.
use Rattle.std.proofs.Common.{◌≡◌, ◌↔◌, ◌⊎◌, inl, inr, ℕ, suc, ◌+◌, ◌-◌, ◌*◌, ◌/◌, ◌%◌, ◌<◌, List, [], ◌∷◌, map, All}
use Rattle.std.proofs.Common.{IsTrue, Contains, arith, refl, sym, ap, subst, ◌∙◌}
use Rattle.std.specs.Prelude.{AllPairs}
use Rattle.std.proofs.lemmas.List.Kept.{AllPairs-from_increasing}
use Rattle.sheet_refs.specs.Cells.{Position}
use Rattle.sheet_refs.specs.Sizes.{is_inside, place_of, cell_count}
use Rattle.sheet_refs.specs.declared.sizes.Sizes.{Sizes}
use Rattle.sheet_refs.proofs.Places.{place-lt}
use Rattle.sheet_model.specs.Changes.{ChangeValue}
use Rattle.sheet_model.specs.Edits.{AreInSheet}
use Rattle.sheet_model.specs.Logs.{after}
use Rattle.sheet_model.specs.Sheets.{SheetValue}
use Rattle.sheet_model.specs.declared.entry.Entry.{Entry}
use Rattle.sheet_model.proofs.EditLemmas.{first_or_later}
use Rattle.sheet_model.proofs.LogLemmas.{after-sizes}
use Rattle.edit_log.specs.Kept.{cell_at-inside, cell_at-place_of, cell_at-place}
use Rattle.edit_log.specs.Touches.{Touches, AreTouched, TouchesPlace, cell_at}
use Rattle.sheet_model.proofs.ListMembers.{first_member, later_member, no_member, mapped_from, mapped_to}
use Rattle.edit_log.proofs.TouchLemmas.{depends_inside}

-- lists with the same elements, whose numbers rise along both, are one
module _ {A : Type 0} (f : A → ℕ) where
  abbrev Rises : List A → Type 0
  Rises xs = AllPairs (λ a b. a < b) (map f xs)

  head_below : (x y : A) (xs : List A) → Rises (x ∷ xs) → Contains xs y → f x < f y
  head_below x y xs up there =
      let (k, below, at) = mapped_to f xs y there in
      subst (λ n. f x < n) at (up 0 (suc k) (f y) (omega arith) (omega (arith, below)))

  tail_rises : (x : A) (xs : List A) → Rises (x ∷ xs) → Rises xs
  tail_rises x xs up i j d lt within = up (suc i) (suc j) d (omega (arith, lt)) (omega (arith, within))

  same_head : (x y : A) (xs ys : List A) → Rises (x ∷ xs) → Rises (y ∷ ys) → (y ≡ x) ⊎ Contains ys x → (x ≡ y) ⊎ Contains xs y → x ≡ y
  same_head x y xs ys up_x up_y (inl same) other = sym same
  same_head x y xs ys up_x up_y (inr later) (inl same) = same
  same_head x y xs ys up_x up_y (inr later) (inr also) = absurd (omega (arith, head_below y x ys up_y later, head_below x y xs up_x also))

  later_too : (x y z : A) (xs ys : List A) → x ≡ y → Rises (x ∷ xs) → Contains xs z → (y ≡ z) ⊎ Contains ys z → Contains ys z
  later_too x y z xs ys heads up there (inr later) = later
  later_too x y z xs ys heads up there (inl same) = absurd (omega (arith, head_below x z xs up there, ap f (heads ∙ same)))

  pub one_list : (xs ys : List A) → Rises xs → Rises ys → ((z : A) → Contains xs z → Contains ys z) → ((z : A) → Contains ys z → Contains xs z) → xs ≡ ys
  one_list [] [] up_x up_y forth back = refl
  one_list [] (y ∷ ys) up_x up_y forth back = absurd (no_member y (back y (first_member y ys)))
  one_list (x ∷ xs) [] up_x up_y forth back = absurd (no_member x (forth x (first_member x xs)))
  one_list (x ∷ xs) (y ∷ ys) up_x up_y forth back =
      let heads : x ≡ y = same_head x y xs ys up_x up_y (first_or_later x y ys (forth x (first_member x xs)))
      (first_or_later y x xs (back y (first_member y ys))) in
      let tails : xs ≡ ys = one_list xs ys (tail_rises x xs up_x) (tail_rises y ys up_y)
      (λ z there. later_too x y z xs ys heads up_x there (first_or_later z y ys (forth z (later_member x z xs there))))
      (λ z there. later_too y x z ys xs (sym heads) up_y there (first_or_later z x xs (back z (later_member y z ys there)))) in
      λ i. heads i ∷ tails i

pub one_touched_list : (opening : SheetValue) (log : List Entry) (entry : Entry) (a b : List Position)
    → AreTouched opening log entry a → AreTouched opening log entry b → a ≡ b
one_touched_list opening log entry a b a_is b_is =
    one_list (place_of opening.sizes) a b
    (AllPairs-from_increasing (map (place_of opening.sizes) a) a_is.order)
    (AllPairs-from_increasing (map (place_of opening.sizes) b) b_is.order)
    (λ cell there. (b_is.exact cell).1 ((a_is.exact cell).0 there))
    (λ cell there. (a_is.exact cell).1 ((b_is.exact cell).0 there))

-- the cells that an entry of the sheet touches lie in it
pub touches_inside : (opening : SheetValue) (log : List Entry) (entry : Entry) (cell : Position)
    → AreInSheet opening entry.edit → Touches opening log entry cell → IsTrue (is_inside opening.sizes cell)
touches_inside opening log entry cell inside touches =
    let sizes = after-sizes opening log in
    subst (λ (s : Sizes). IsTrue (is_inside s cell)) sizes
    (depends_inside (after opening log) entry.edit
    (subst (λ (s : Sizes). All (λ (c : ChangeValue). IsTrue (is_inside s c.cell)) entry.edit) (sym sizes) inside)
    cell touches)

pub places_of_cells : (sizes : Sizes) (place : ℕ) → place < cell_count sizes
    → IsTrue (is_inside sizes (cell_at sizes place)) × (place_of sizes (cell_at sizes place) ≡ place)
places_of_cells sizes place below = (cell_at-inside sizes place below, cell_at-place_of sizes place below)

pub touched_place : (opening : SheetValue) (log : List Entry) (entry : Entry) (cell : Position)
    → IsTrue (is_inside opening.sizes cell) → TouchesPlace opening log entry (place_of opening.sizes cell)
    ↔ Touches opening log entry cell
touched_place opening log entry cell inside =
    let there : cell_at opening.sizes (place_of opening.sizes cell) ≡ cell = cell_at-place opening.sizes cell inside in
    (λ touches. subst (Touches opening log entry) there touches, λ touches. subst (Touches opening log entry) (sym there) touches)

-- the place of a cell of the rectangle is that of the cell there
cell_at-back : (sizes : Sizes) (place : ℕ) → IsTrue (is_inside sizes (cell_at sizes place)) → place < cell_count sizes
cell_at-back sizes place inside = back place sizes.cols (cell_count sizes) (place-lt sizes (cell_at sizes place) inside)
  where
    back : (place cols count : ℕ) → (place / cols + 1 - 1) * cols + (place % cols + 1 - 1) < count → place < count
    back place cols count below =
        let row : place / cols + 1 - 1 ≡ place / cols = omega arith in
        let col : place % cols + 1 - 1 ≡ place % cols = omega arith in
        let here : place / cols * cols + place % cols < count = rw (row, col) at below in
        grind (arith, here)

module _ (opening : SheetValue) (log : List Entry) (entry : Entry) (cells : List Position)
    (inside : AreInSheet opening entry.edit) (are : AreTouched opening log entry cells) (place : ℕ) where
  there : TouchesPlace opening log entry place → IsTrue (is_inside opening.sizes (cell_at opening.sizes place))
  there touches = touches_inside opening log entry (cell_at opening.sizes place) inside touches

  below : TouchesPlace opening log entry place → place < cell_count opening.sizes
  below touches = cell_at-back opening.sizes place (there touches)

  listed : TouchesPlace opening log entry place → Contains (map (place_of opening.sizes) cells) place
  listed touches =
      subst (Contains (map (place_of opening.sizes) cells)) (cell_at-place_of opening.sizes place (below touches))
      (mapped_to (place_of opening.sizes) cells (cell_at opening.sizes place) ((are.exact (cell_at opening.sizes place)).1 touches))

  from_list : Contains (map (place_of opening.sizes) cells) place → TouchesPlace opening log entry place
  from_list member =
      let (cell, stands, at) = mapped_from (place_of opening.sizes) cells place member in
      let touches : Touches opening log entry cell = (are.exact cell).0 stands in
      let is_place : TouchesPlace opening log entry (place_of opening.sizes cell) =
      (touched_place opening log entry cell (touches_inside opening log entry cell inside touches)).1 touches in
      subst (TouchesPlace opening log entry) at is_place

  pub touched_places : (TouchesPlace opening log entry place ↔ Contains (map (place_of opening.sizes) cells) place)
      × (TouchesPlace opening log entry place → place < cell_count opening.sizes)
  touched_places = ((listed, from_list), below)
