-- Which cells an entry touches, and that all others keep their values: proofs that the subject of a sheet needs for its laws.
use Rattle.std.proofs.Common.{◌≡◌, ◌↔◌, inl, inr, ℕ, zero, suc, ◌+◌, ◌-◌, ◌*◌, ◌/◌, ◌%◌, ◌<◌, List, [], ◌∷◌, ◌++◌, map}
use Rattle.std.proofs.Common.{slice_get, Some, IsTrue, Contains, arith, refl, sym, ap, subst, ◌∙◌}
use Rattle.sheet_refs.specs.Cells.{Position}
use Rattle.sheet_refs.specs.Ends.{Reference, corners_of}
use Rattle.sheet_refs.specs.Sizes.{is_inside, place_of, cell_count}
use Rattle.sheet_refs.specs.declared.sizes.Sizes.{Sizes}
use Rattle.sheet_refs.proofs.Places.{inside_from, place-lt, place_same}
use Rattle.value_core.specs.Values.{code_of}
use Rattle.value_core.specs.declared.value.Value.{Value}
use Rattle.formula_syntax.specs.Tree.{references_of}
use Rattle.graph_walk.specs.Paths.{IsReached}
use Rattle.graph_walk.proofs.PathLemmas.{reached_start, reached_step, reached_within}
use Rattle.sheet_model.specs.Edits.{EditValue, after_edit}
use Rattle.sheet_model.specs.Logs.{after, IsOfSheet}
use Rattle.sheet_model.specs.Sheets.{SheetValue, ContentValue, Constant, Computed, content_of}
use Rattle.sheet_model.specs.Values.{value_of, step, step_content, circular_value, budget_value, content_references, IsInput}
use Rattle.sheet_model.specs.declared.entry.Entry.{Entry}
use Rattle.sheet_model.proofs.EditLemmas.{changed_or_not, edit-others, edit-sizes}
use Rattle.sheet_model.proofs.LogLemmas.{after-more}
use Rattle.sheet_model.proofs.LoopLemmas.{agree_on}
use Rattle.sheet_model.proofs.ValueLemmas.{step_local}
use Rattle.sheet_model.specs.Ranges.{ranges_in}
use Rattle.edit_log.specs.Touches.{DependsDirectly, IsChangedBy, Touches, place_worth, TouchesPlace, cell_at}

-- an element at a place is in the list, and so is what it is mapped to
mapped_member : {A B : Type 0} (f : A → B) (xs : List A) (i : ℕ) (x : A) → slice_get xs i ≡ Some x → Contains (map f xs) (f x)
mapped_member f [] i x at = absurd (cc)
mapped_member f (y ∷ ys) zero x at = (0, omega arith, (let is : y ≡ x = cc in ap f is))
mapped_member f (y ∷ ys) (suc i) x at = let rest = mapped_member f ys i x at in (suc rest.0, omega (arith, rest.1), rest.2)

-- a cell that a content names is in a range to which it refers
named_listed : (content : ContentValue) (through : Reference) (place : ℕ)
    → slice_get (content_references content) place ≡ Some through → Contains (ranges_in content) (corners_of through)
named_listed (Constant value) through place at = absurd (nothing place through at)
  where
    nothing : (i : ℕ) (x : Reference) → slice_get [] i ≡ Some x → ⊥
    nothing i x at = cc
named_listed (Computed tree) through place at = mapped_member corners_of (references_of tree) place through at

-- the cells that depend on the cells that an edit changes, by the formulas of a sheet
abbrev pub Depends : SheetValue → EditValue → Position → Type 0
Depends sheet edit cell = IsReached (DependsDirectly sheet) (IsChangedBy edit) cell

-- an edit of other cells leaves what stands in a cell
pub content-kept : (sheet : SheetValue) (edit : EditValue) (cell : Position) → ¬ IsChangedBy edit cell
    → content_of (after_edit sheet edit) cell ≡ content_of sheet cell
content-kept sheet edit cell differs = edit-others sheet edit cell (λ change there same. differs (change, there, same))

-- an input of a cell leads to it by a step
pub input_step : (sheet : SheetValue) (cell input : Position) → IsInput sheet cell input → DependsDirectly sheet input cell
input_step sheet cell input is =
    record {
      pair = record { range = corners_of is.named.through; cell = cell };
      of_sheet = named_listed (content_of sheet cell) is.named.through is.named.place is.named.listed;
      inside = is.named.inside;
      cell_is = refl;
    }

-- where a cell doesn't depend on the changed ones, one step gives the same before the edit and after it
module _ (sheet : SheetValue) (edit : EditValue) where
  abbrev Kept : Position → Type 0
  Kept cell = ¬ Depends sheet edit cell

  step-kept : (cell : Position) (f : Position → Value) → Kept cell → step (after_edit sheet edit) cell f ≡ step sheet cell f
  step-kept cell f kept =
      let differs : ¬ IsChangedBy edit cell = λ changed. kept (reached_start (DependsDirectly sheet) (IsChangedBy edit) cell changed) in
      ap (λ s. step_content s f (content_of (after_edit sheet edit) cell)) (edit-sizes sheet edit)
      ∙ ap (step_content sheet.sizes f) (content-kept sheet edit cell differs)

  inputs-kept : (cell input : Position) → Kept cell → IsInput sheet cell input → Kept input
  inputs-kept cell input kept is depends = kept (reached_step (DependsDirectly sheet) (IsChangedBy edit) input cell depends (input_step sheet cell input is))

  same-kept : (cell : Position) (f g : Position → Value) → Kept cell → ((input : Position) → IsInput sheet cell input
      → f input ≡ g input) → step (after_edit sheet edit) cell f ≡ step sheet cell g
  same-kept cell f g kept same = step-kept cell f kept ∙ step_local sheet cell f g same

  -- a cell that doesn't depend on a changed one keeps its value
  pub value-kept : (cell : Position) → ¬ Depends sheet edit cell → value_of (after_edit sheet edit) cell ≡ value_of sheet cell
  unfolding value_of
  value-kept cell kept =
      ap (λ s. budget_value (after_edit sheet edit) (suc (cell_count s)) cell) (edit-sizes sheet edit)
      ∙ agree_on (IsInput sheet) circular_value Kept (step (after_edit sheet edit)) (step sheet) inputs-kept same-kept (suc (cell_count sheet.sizes)) cell kept

pub untouched : (opening : SheetValue) (log : List Entry) (entry : Entry) (cell : Position)
    → ¬ Touches opening log entry cell → value_of (after opening (log ++ entry ∷ [])) cell ≡ value_of
    (after opening log) cell
untouched opening log entry cell spared =
    ap (λ s. value_of s cell) (after-more opening log entry) ∙ value-kept (after opening log) entry.edit cell spared

-- where two sheets differ in changed cells alone, the same cells depend on these
pub depends-same : (a b : SheetValue) (edit : EditValue) → ((cell : Position) → ¬ IsChangedBy edit cell
    → content_of a cell ≡ content_of b cell) → (cell : Position) → Depends a edit cell → Depends b edit cell
depends-same a b edit same = reached_within (DependsDirectly a) (IsChangedBy edit) (Depends b edit)
    (λ cell is. reached_start (DependsDirectly b) (IsChangedBy edit) cell is)
    (λ from to one depends. elim (changed_or_not edit to) [
      | inl is ↦ reached_start (DependsDirectly b) (IsChangedBy edit) to is
      | inr differs ↦ reached_step (DependsDirectly b) (IsChangedBy edit) from to depends
          (step_in from to one (λ changed. differs changed.0 changed.1 changed.2))
    ])
  where
    step_in : (from to : Position) → DependsDirectly a from to → ¬ IsChangedBy edit to → DependsDirectly b from to
    step_in from to one differs = record {
      pair = one.pair;
      of_sheet = subst (λ (content : ContentValue). Contains (ranges_in content) one.pair.range)
          (same one.pair.cell (λ changed. differs (subst (IsChangedBy edit) one.cell_is changed))) one.of_sheet;
      inside = one.inside;
      cell_is = one.cell_is;
    }

-- an entry touches the same cells by the formulas before it and after it
pub before_after : (opening : SheetValue) (log : List Entry) (entry : Entry) (cell : Position)
    → Touches opening log entry cell ↔ Touches opening (log ++ entry ∷ []) entry cell
before_after opening log entry cell =
    let before : SheetValue = after opening log in
    let edit : EditValue = entry.edit in
    let P : SheetValue → Type 0 = λ s. Depends s edit cell in
    let kept = content-kept before edit in (
      λ depends. subst P (sym (after-more opening log entry)) (depends-same before (after_edit before edit) edit
          (λ c differs. sym (kept c differs)) cell depends),
      λ depends. depends-same (after_edit before edit) before edit kept cell (subst P (after-more opening log entry) depends),
    )

-- the cell at the place of a cell is that cell
split_place : (cols count place : ℕ) → place < count * cols → (place / cols < count) × (place % cols < cols) × (place / cols * cols + place % cols ≡ place)
split_place cols count place below = grind arith

pub cell_at-inside : (sizes : Sizes) (place : ℕ) → place < cell_count sizes → IsTrue (is_inside sizes (cell_at sizes place))
cell_at-inside sizes place below =
    let parts = split_place sizes.cols sizes.rows place below in
    let row = parts.0 in
    let col = parts.1 in
    inside_from sizes (cell_at sizes place) (record {
      row_from = omega arith;
      row_to = omega (arith, row);
      col_from = omega arith;
      col_to = omega (arith, col);
    })

pub cell_at-place_of : (sizes : Sizes) (place : ℕ) → place < cell_count sizes → place_of sizes (cell_at sizes place) ≡ place
cell_at-place_of sizes place below =
    let parts = split_place sizes.cols sizes.rows place below in
    let row_at : place / sizes.cols + 1 - 1 ≡ place / sizes.cols = omega arith in
    let col_at : place % sizes.cols + 1 - 1 ≡ place % sizes.cols = omega arith in
    rw (row_at, col_at) parts.2

pub cell_at-place : (sizes : Sizes) (cell : Position) → IsTrue (is_inside sizes cell) → cell_at sizes (place_of sizes cell) ≡ cell
cell_at-place sizes cell inside =
    let below = place-lt sizes cell inside in
    place_same sizes (cell_at sizes (place_of sizes cell)) cell (cell_at-inside sizes (place_of sizes cell) below)
    inside (cell_at-place_of sizes (place_of sizes cell) below)

-- what the marks over a sheet rest on
pub place_untouched : (opening : SheetValue) (log : List Entry) (entry : Entry) (place : ℕ)
    → ¬ TouchesPlace opening log entry place → place_worth opening (log ++ entry ∷ []) place ≡ place_worth opening log
    place
place_untouched opening log entry place spared = ap code_of (untouched opening log entry (cell_at opening.sizes place) spared)

pub over_sheet : (opening : SheetValue) → IsOfSheet opening (cell_count opening.sizes) (place_worth opening)
over_sheet opening = record {
  cells = refl;
  values = λ log cell inside. ap (λ c. code_of (value_of (after opening log) c)) (cell_at-place opening.sizes cell inside);
}
