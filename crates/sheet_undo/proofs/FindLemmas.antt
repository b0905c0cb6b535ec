-- Cells that are found by their places in a rectangle.
use Rattle.std.proofs.Common.{◌≡◌, ◌≢◌, ◌⊎◌, inl, inr, ℕ, ◌+◌, ◌<◌, List, [], ◌∷◌, ◌++◌, length, take, get_or, slice_get, Option, None, Some, IsTrue, All}
use Rattle.std.proofs.Common.{arith, refl, sym, ap, ◌∙◌, subst}
use Rattle.std.specs.BTreeMap.{BTreeMap, Updates, get}
use Rattle.std.specs.Ordering.{nat_cmp}
use Rattle.std.proofs.lemmas.Bool.{cases_eq}
use Rattle.std.proofs.lemmas.List.{get_or_default, length-map, length-take-le}
use Rattle.std.proofs.lemmas.Option.{same_Some, slice_get_read, get_or_from_slice_get}
use Rattle.sheet_refs.specs.Cells.{Position}
use Rattle.sheet_refs.specs.Sizes.{is_inside, place_of}
use Rattle.sheet_refs.specs.declared.sizes.Sizes.{Sizes}
use Rattle.sheet_refs.proofs.Places.{place_same}
use Rattle.sheet_refs.proofs.RunLemmas.{Sets, same_value, none_is_some, sets_from_updates}
use Rattle.sheet_model.specs.Changes.{ChangeValue}
use Rattle.sheet_model.specs.Edits.{AreOfDistinctCells, EditValue}
use Rattle.sheet_model.proofs.ListLemmas.{mapped_more, slice_get-append, slice_get-push, slice_get-pushed}
use Rattle.sheet_undo.specs.Found.{Finds}
use Rattle.sheet_undo.specs.Undoing.{changed_cells}
use Rattle.sheet_undo.proofs.PlaceLemmas.{all_at, mapped_at, taken_at}

-- of no cells none is found
pub finds_none : (sizes : Sizes) (look : ℕ → Option ℕ) → ((place : ℕ) → look place ≡ None) → Finds sizes [] look
finds_none sizes look none = record { each = λ k cell at. absurd (cc); only = λ place k at. absurd (none_is_some (none place) at) }

module _ (sizes : Sizes) (cells : List Position) (look : ℕ → Option ℕ) (finds : Finds sizes cells look) where
  -- the cells of the list are in the rectangle
  pub found_inside : (k : ℕ) (cell : Position) → slice_get cells k ≡ Some cell → IsTrue (is_inside sizes cell)
  found_inside k cell at =
      let (other, is, inside, place) = finds.only (place_of sizes cell) k (finds.each k cell at) in
      subst (λ (c : Position). IsTrue (is_inside sizes c)) (same_Some other cell (sym is ∙ at)) inside

  -- what is found at the place of a cell is where that cell stands
  pub found_at : (k : ℕ) (cell : Position) → IsTrue (is_inside sizes cell) → look (place_of sizes cell) ≡ Some k → slice_get cells k ≡ Some cell
  found_at k cell inside at =
      let (other, is, other_inside, place) = finds.only (place_of sizes cell) k at in
      is ∙ ap Some (place_same sizes other cell other_inside inside place)

  -- a cell stands at one place
  pub found_once : (i j : ℕ) (cell : Position) → slice_get cells i ≡ Some cell → slice_get cells j ≡ Some cell → i ≡ j
  found_once i j cell first second = same_value (finds.each i cell first) (finds.each j cell second)

  -- one more cell, which doesn't stand there
  pub finds_more : (cell : Position) (new : ℕ → Option ℕ) → Sets look new (place_of sizes cell) (length cells) → IsTrue (is_inside sizes cell)
      → ((k : ℕ) (c : Position) → slice_get cells k ≡ Some c → c ≢ cell) → Finds sizes (cells ++ cell ∷ []) new
  finds_more cell new sets inside apart = record {
    each = λ k c at. elim (slice_get-pushed cells cell k c at) [
      | inl before ↦ sets.others (place_of sizes c) (λ same. apart k c before (place_same sizes c cell (found_inside k c before) inside same))
          ∙ finds.each k c before
      | inr last ↦ subst (λ (p : Position). new (place_of sizes p) ≡ Some k) last.1 (sets.at ∙ ap Some (sym last.0))
    ];
    only = λ place k at. by place k at (cases_eq place (place_of sizes cell));
  }
    where
      by : (place k : ℕ) → new place ≡ Some k → (place ≡ place_of sizes cell) ⊎ (place ≡ place_of sizes cell → ⊥)
          → (c : Position) × (slice_get (cells ++ cell ∷ []) k ≡ Some c) × IsTrue (is_inside sizes c) × (place_of sizes c ≡ place)
      by place k at (inl same) =
          let k_is : k ≡ length cells = same_value (sym (ap new same) ∙ at) sets.at in
          (cell, ap (slice_get (cells ++ cell ∷ [])) k_is ∙ slice_get-push cells cell, inside, sym same)
      by place k at (inr differs) =
          let (c, is, c_inside, place_is) = finds.only place k (sym (sets.others place differs) ∙ at) in
          (c, slice_get-append cells (cell ∷ []) k c is, c_inside, place_is)

-- the cells of the first changes, and of one more, as the edit and the map are written to
pub cells_more : (edit : EditValue) (k : ℕ) (change : ChangeValue) (cell : Position) → k < length edit → change ≡ get_or edit k change → cell ≡ change.cell
    → changed_cells (take (k + 1) edit) ≡ changed_cells (take k edit) ++ cell ∷ []
cells_more edit k change cell below at cell_is =
    sym (mapped_more (λ (c : ChangeValue). c.cell) edit (changed_cells (take k edit)) k change cell refl below at cell_is)

pub finds_next : (sizes : Sizes) (edit : EditValue) (k place : ℕ) (change : ChangeValue) (cell : Position) (old new : BTreeMap ℕ ℕ) → k < length edit
    → change ≡ get_or edit k change → cell ≡ change.cell
    → AreOfDistinctCells edit → All (λ (c : ChangeValue). IsTrue (is_inside sizes c.cell)) edit → place ≡ place_of sizes cell
    → Finds sizes (changed_cells (take k edit)) (get nat_cmp old) → Updates nat_cmp old new place (Some k)
    → Finds sizes (changed_cells (take (k + 1) edit)) (get nat_cmp new)
finds_next sizes edit k place change cell old new below at cell_is distinct insides place_is finds updates =
    let count : length (changed_cells (take k edit)) ≡ k = length-map (take k edit) (λ (c : ChangeValue). c.cell)
    ∙ length-take-le k edit (omega (arith, below)) in
    let stands : slice_get edit k ≡ Some change = slice_get_read edit (length edit) k change refl below at in
    let inside : IsTrue (is_inside sizes cell) =
    subst (λ (p : Position). IsTrue (is_inside sizes p)) (sym cell_is)
    (all_at (λ (c : ChangeValue). IsTrue (is_inside sizes c.cell)) edit k change insides stands) in
    let sets : Sets (get nat_cmp old) (get nat_cmp new) (place_of sizes cell) (length (changed_cells (take k edit))) =
    subst (λ n. Sets (get nat_cmp old) (get nat_cmp new) n (length (changed_cells (take k edit)))) place_is
    (subst (Sets (get nat_cmp old) (get nat_cmp new) place) (sym count) (sets_from_updates old new place k updates)) in
    subst (λ cells. Finds sizes cells (get nat_cmp new)) (sym (cells_more edit k change cell below at cell_is))
    (finds_more sizes (changed_cells (take k edit)) (get nat_cmp old) finds cell (get nat_cmp new) sets inside apart)
  where
    apart : (i : ℕ) (c : Position) → slice_get (changed_cells (take k edit)) i ≡ Some c → c ≢ cell
    apart i c at_i same =
        let (x, taken, x_cell) = mapped_at (λ (y : ChangeValue). y.cell) (take k edit) i c at_i in
        let before = taken_at k edit i x taken in
        let first : x ≡ get_or edit i x = sym (get_or_from_slice_get edit i x x before.1) in
        let second : change ≡ get_or edit k x = at ∙ get_or_default edit k change x below in
        distinct i k x before.0 below (sym (ap (λ (y : ChangeValue). y.cell) first) ∙ x_cell ∙ same ∙ cell_is ∙ ap (λ (y : ChangeValue). y.cell) second)
