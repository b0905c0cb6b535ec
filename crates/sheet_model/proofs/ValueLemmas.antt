-- One step of evaluation looks at the inputs of a cell alone, and a circular input makes it circular.
use Rattle.std.proofs.Common.{◌≡◌, ◌≢◌, ◌⊎◌, inl, inr, List, true, IsTrue, refl}
use Rattle.std.specs.List.{list_any}
use Rattle.sheet_refs.specs.Cells.{Position, cells_of}
use Rattle.sheet_refs.specs.Ends.{Reference, corners_of}
use Rattle.sheet_refs.specs.Sizes.{is_inside}
use Rattle.sheet_refs.specs.declared.sizes.Sizes.{Sizes}
use Rattle.value_core.specs.declared.value.ErrorKind.TheVariants.{Circ}
use Rattle.value_core.specs.declared.value.Value.{Value}
use Rattle.value_core.specs.declared.value.Value.TheVariants.{Error}
use Rattle.formula_syntax.specs.Tree.{references_of}
use Rattle.formula_eval.specs.Inputs.{within}
use Rattle.formula_eval.specs.Meaning.{is_circular, has_circular, IsNamedBy}
use Rattle.formula_eval.proofs.MeaningLemmas.{any_at, cell_any, formula_value_same}
use Rattle.sheet_model.specs.Budget.{IsLocal, IsStrict}
use Rattle.sheet_model.specs.Sheets.{SheetValue, ContentValue, Constant, Computed, content_of}
use Rattle.sheet_model.specs.Values.{step_content, step, content_references, IsInput}

-- a circular cell that references name
pub named_circular : (values : Position → Value) (references : List Reference) (cell : Position)
    → IsNamedBy references cell → is_circular (values cell) ≡ true → has_circular values references ≡ true
named_circular values references cell named circular =
    any_at (λ (r : Reference). list_any (λ c. is_circular (values c)) (cells_of (corners_of r))) references named.place named.through named.listed
    (cell_any (λ c. is_circular (values c)) (corners_of named.through) cell named.inside circular)

content_same : (sizes : Sizes) (f g : Position → Value) (content : ContentValue)
    → ((cell : Position) → IsNamedBy (content_references content) cell → IsTrue (is_inside sizes cell)
    → f cell ≡ g cell) → step_content sizes f content ≡ step_content sizes g content
content_same sizes f g (Constant value) same = refl
content_same sizes f g (Computed formula) same = formula_value_same sizes formula f g same

content_strict : (sizes : Sizes) (f : Position → Value) (cell : Position) (content : ContentValue)
    → IsNamedBy (content_references content) cell → IsTrue (is_inside sizes cell) → f cell ≡ Error Circ
    → step_content sizes f content ≡ Error Circ
content_strict sizes f cell (Constant value) named inside circular = absurd (let no = named.listed in cc)
content_strict sizes f cell (Computed formula) named inside circular =
    let here : is_circular (within sizes f cell) ≡ true = rw (inside, circular) refl in
    rw (named_circular (within sizes f) (references_of formula) cell named here) refl

module _ (sheet : SheetValue) where
  pub step_local : IsLocal (IsInput sheet) (step sheet)
  step_local c f g same = content_same sheet.sizes f g (content_of sheet c) (λ cell named inside. same cell (record { named = named; inside = inside }))

  pub step_strict : IsStrict (IsInput sheet) (Error Circ) (step sheet)
  step_strict c d f input circular = content_strict sheet.sizes f d (content_of sheet c) input.named input.inside circular

-- being circular can be tested
pub circular_or_not : (v : Value) → (v ≡ Error Circ) ⊎ (v ≢ Error Circ)
circular_or_not (Error Circ) = inl refl
circular_or_not _ = inr (λ same. cc)

pub is_circular-true : (v : Value) → is_circular v ≡ true → v ≡ Error Circ
is_circular-true (Error Circ) test = refl
is_circular-true _ test = cc
