-- A step is circular only where an input is.
use Rattle.std.proofs.Common.{◌≡◌, zero, suc, List, [], ◌∷◌, Bool, true, false, IsTrue, refl, sym, ◌∙◌, ap, arith}
use Rattle.std.specs.List.{list_any}
use Rattle.std.proofs.lemmas.Option.{slice_get_within}
use Rattle.sheet_refs.specs.Cells.{Position, Corners, IsIn, cells_of}
use Rattle.sheet_refs.specs.Ends.{Reference, corners_of}
use Rattle.sheet_refs.specs.Sizes.{is_inside, cell_of_place}
use Rattle.sheet_refs.specs.declared.sizes.Sizes.{Sizes}
use Rattle.sheet_refs.proofs.Places.{range_place}
use Rattle.value_core.specs.declared.value.ErrorKind.TheVariants.{Circ}
use Rattle.value_core.specs.declared.value.Value.{Value}
use Rattle.value_core.specs.declared.value.Value.TheVariants.{Empty, Error}
use Rattle.value_core.specs.Conversions.{never_empty}
use Rattle.formula_syntax.specs.Tree.{references_of}
use Rattle.formula_eval.specs.Inputs.{within}
use Rattle.formula_eval.specs.Meaning.{is_circular, has_circular, meaning, IsNamedBy}
use Rattle.sheet_model.specs.Budget.{HandsOnCircular, StandsIn}
use Rattle.sheet_model.specs.Sheets.{SheetValue, ContentValue, Constant, Computed, IsWritten, IsSheet, content_of}
use Rattle.sheet_model.specs.Values.{step_content, step, content_references, IsInput}
use Rattle.formula_eval.proofs.CircularMeaning.{value_plain}
use Rattle.sheet_model.proofs.SheetLemmas.{written_at}
use Rattle.sheet_model.proofs.ValueLemmas.{is_circular-true}

-- where a list has an element that passes, one is found
any_found : {A : Type 0} (p : A → Bool) (xs : List A) → list_any p xs ≡ true → (x : A) × StandsIn xs x × (p x ≡ true)
any_found p [] some = absurd (cc)
any_found {A} p (x ∷ xs) some = by_test (p x) refl (any_found p xs)
  where
    by_test : (test : Bool) → p x ≡ test → (list_any p xs ≡ true → (y : A) × StandsIn xs y × (p y ≡ true)) → (y : A) × StandsIn (x ∷ xs) y × (p y ≡ true)
    by_test true same later = (x, (zero, refl), same)
    by_test false same later =
        let (y, stands, passes) = later (rw same at some) in
        (y, (suc stands.0, stands.1), passes)

-- what stands among the cells of a range lies in it
cell_within : (range : Corners) (cell : Position) → StandsIn (cells_of range) cell → IsIn cell range
cell_within range cell stands =
    let k = stands.0 in
    let place = range_place range k (slice_get_within (cells_of range) k cell stands.1) in
    let here : cell_of_place range k ≡ cell = (let e = place.cell in let f = stands.1 in cc) in
    let inside : IsIn (cell_of_place range k) range = record {
      row_from = omega arith;
      row_to = omega (arith, place.row);
      col_from = omega arith;
      col_to = omega (arith, place.col);
    } in
    rw here at inside

-- a circular cell that references name, where there is one
circular_found : (values : Position → Value) (references : List Reference) → has_circular values references ≡ true
    → (cell : Position) × IsNamedBy references cell × (values cell ≡ Error Circ)
circular_found values references some =
    let (r, listed, passes) = any_found (λ (r : Reference). list_any (λ c. is_circular (values c)) (cells_of (corners_of r))) references some in
    let (cell, stands, circular) = any_found (λ (c : Position). is_circular (values c)) (cells_of (corners_of r)) passes in (
      cell,
      record { through = r; place = listed.0; listed = listed.1; inside = cell_within (corners_of r) cell stands },
      is_circular-true (values cell) circular,
    )

module _ (sizes : Sizes) (values : Position → Value) where
  -- a cell whose value is circular in the rectangle lies in it
  circular_inside : (cell : Position) → within sizes values cell ≡ Error Circ → IsTrue (is_inside sizes cell) × (values cell ≡ Error Circ)
  circular_inside cell same = by_test (is_inside sizes cell) refl
    where
      by_test : (test : Bool) → is_inside sizes cell ≡ test → IsTrue (is_inside sizes cell) × (values cell ≡ Error Circ)
      by_test true inside = (inside, rw inside at same)
      by_test false outside = absurd (let no : Empty ≡ Error Circ = rw outside at same in cc)

  content_honest : (content : ContentValue) → IsWritten content → step_content sizes values content ≡ Error Circ
      → (cell : Position) × IsNamedBy (content_references content) cell × IsTrue (is_inside sizes cell)
      × (values cell ≡ Error Circ)
  content_honest (Constant value) written same = absurd (written.not_circular same)
  content_honest (Computed formula) kept same = by_test (has_circular (within sizes values) (references_of formula)) refl
    where
      by_test : (test : Bool) → has_circular (within sizes values) (references_of formula) ≡ test → (cell : Position)
          × IsNamedBy (references_of formula) cell × IsTrue (is_inside sizes cell) × (values cell ≡ Error Circ)
      by_test true some =
          let (cell, named, circular) = circular_found (within sizes values) (references_of formula) some in
          let (inside, value) = circular_inside cell circular in
          (cell, named, inside, value)
      by_test false none =
          let here : never_empty (meaning (within sizes values) formula) ≡ Error Circ = rw none at same in
          absurd (let no : is_circular (Error Circ) ≡ false = ap is_circular (sym here) ∙ value_plain (within sizes values) formula kept.fitting none in cc)

module _ (sheet : SheetValue) where
  pub step_honest : IsSheet sheet → HandsOnCircular (IsInput sheet) (Error Circ) (step sheet)
  step_honest is c values same =
      let (cell, named, inside, circular) = content_honest sheet.sizes values (content_of sheet c) (written_at sheet is c) same in
      (cell, record { named = named; inside = inside }, circular)
