-- The values of a sheet: each is one step over them, and no other values are.
use Rattle.std.proofs.Common.{◌≡◌, ◌↔◌, ℕ, zero, suc, ◌<◌, ◌∙◌, ap}
use Rattle.sheet_refs.specs.Cells.{Position}
use Rattle.sheet_refs.specs.Sizes.{place_of, cell_count}
use Rattle.sheet_refs.proofs.Places.{place-lt, place_same}
use Rattle.value_core.specs.declared.value.Value.{Value}
use Rattle.value_core.specs.Values.{IsValue}
use Rattle.sheet_refs.specs.declared.sizes.Sizes.{Sizes}
use Rattle.formula_eval.proofs.FormulaInRange.{formula_in_range}
use Rattle.sheet_model.specs.Budget.{ev, IsCircular, LeadsIntoCycle}
use Rattle.sheet_model.specs.Sheets.{SheetValue, ContentValue, Constant, Computed, IsWritten, IsSheet, content_of}
use Rattle.sheet_model.specs.Values.{value_of, step, step_content, circular_value, IsInput}
use Rattle.sheet_model.proofs.ValueLemmas.{step_local, step_strict, circular_or_not}
use Rattle.sheet_model.proofs.HonestLemmas.{step_honest}
use Rattle.sheet_model.proofs.SheetLemmas.{written_at}
use Rattle.sheet_model.proofs.LoopLemmas.{cycle_circular, leads_into_cycle, value_once, only_values}

-- the inputs of a sheet's cells are numbered by their places
input_below : (sheet : SheetValue) (from to : Position) → IsInput sheet from to → place_of sheet.sizes to < cell_count sheet.sizes
input_below sheet from to input = place-lt sheet.sizes to input.inside

input_apart : (sheet : SheetValue) (a b d e : Position) → IsInput sheet a b → IsInput sheet d e → place_of sheet.sizes b ≡ place_of sheet.sizes e → b ≡ e
input_apart sheet a b d e input other same = place_same sheet.sizes b e input.inside other.inside same

pub one_step : (sheet : SheetValue) (cell : Position) → IsSheet sheet → value_of sheet cell ≡ step sheet cell (value_of sheet)
unfolding value_of
one_step sheet cell is = value_once (IsInput sheet) circular_value (step sheet) (step_local sheet) (step_strict sheet)
    (step_honest sheet is) (place_of sheet.sizes) (cell_count sheet.sizes) (input_below sheet) (input_apart sheet)
    circular_or_not cell

pub only_values_of : (sheet : SheetValue) (values : Position → Value) → IsSheet sheet
    → ((cell : Position) → LeadsIntoCycle (IsInput sheet) cell → values cell ≡ circular_value)
    → ((cell : Position) → ¬ LeadsIntoCycle (IsInput sheet) cell → values cell ≡ step sheet cell values)
    → (cell : Position) → values cell ≡ value_of sheet cell
unfolding value_of
only_values_of sheet values is at_cycles at_others =
    only_values (IsInput sheet) circular_value (step sheet) (step_local sheet) (step_strict sheet)
    (step_honest sheet is) (place_of sheet.sizes) (cell_count sheet.sizes) (input_below sheet) (input_apart sheet)
    circular_or_not values at_cycles at_others

pub circular_cycle : (sheet : SheetValue) (cell : Position) → IsSheet sheet → (value_of sheet cell ≡ circular_value) ↔ LeadsIntoCycle (IsInput sheet) cell
unfolding value_of
circular_cycle sheet cell is = (
  leads_into_cycle (IsInput sheet) circular_value (step sheet) (step_honest sheet is) (place_of sheet.sizes)
      (cell_count sheet.sizes) (input_below sheet) (input_apart sheet) cell,
  λ leads. cycle_circular (IsInput sheet) circular_value (step sheet) (step_local sheet) (step_strict sheet) cell leads (suc (cell_count sheet.sizes)),
)

-- a cell that is circular is so with every budget, and one that is so with every budget is circular
pub circular_with_all : (sheet : SheetValue) (cell : Position) → IsSheet sheet → value_of sheet cell ≡ circular_value
    → IsCircular circular_value (step sheet) cell
circular_with_all sheet cell is circular =
    cycle_circular (IsInput sheet) circular_value (step sheet) (step_local sheet) (step_strict sheet) cell
    ((circular_cycle sheet cell is).0 circular)

pub circular_from_all : (sheet : SheetValue) (cell : Position) → IsCircular circular_value (step sheet) cell → value_of sheet cell ≡ circular_value
unfolding value_of
circular_from_all sheet cell always = always (suc (cell_count sheet.sizes))

-- the value of a constant, and of a cell whose inputs have these values
pub constant_value : (sheet : SheetValue) (cell : Position) (v : Value) → IsSheet sheet → content_of sheet cell ≡ Constant v → value_of sheet cell ≡ v
constant_value sheet cell v is constant = one_step sheet cell is ∙ ap (step_content sheet.sizes (value_of sheet)) constant

pub value_over : (sheet : SheetValue) (cell : Position) (values : Position → Value) → IsSheet sheet
    → ((input : Position) → IsInput sheet cell input → value_of sheet input ≡ values input)
    → value_of sheet cell ≡ step sheet cell values
value_over sheet cell values is same = one_step sheet cell is ∙ step_local sheet cell (value_of sheet) values same

-- what may be written gives a value in range over such values, and so with every budget
content_in_range : (sizes : Sizes) (values : Position → Value) (content : ContentValue) → IsWritten content
    → ((cell : Position) → IsValue (values cell)) → IsValue (step_content sizes values content)
content_in_range sizes values (Constant constant) written each = written.in_range
content_in_range sizes values (Computed formula) written each = formula_in_range sizes formula values written (λ cell inside named. each cell)

budget_in_range : (sheet : SheetValue) → IsSheet sheet → (n : ℕ) (cell : Position) → IsValue (ev circular_value (step sheet) n cell)
unfolding ev
budget_in_range sheet is zero cell = tt
budget_in_range sheet is (suc n) cell =
    content_in_range sheet.sizes (ev circular_value (step sheet) n) (content_of sheet cell) (written_at sheet is cell)
    (budget_in_range sheet is n)

pub value_in_range : (sheet : SheetValue) (cell : Position) → IsSheet sheet → IsValue (value_of sheet cell)
unfolding value_of
value_in_range sheet cell is = budget_in_range sheet is (suc (cell_count sheet.sizes)) cell
