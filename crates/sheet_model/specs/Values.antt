-- What a cell's value is, by a budget of steps of evaluation.
use Rattle.std.specs.Prelude.{◌≡◌, ◌↔◌, ℕ, suc, Bool, IsTrue, List, [], length, slice_get, Some}
use Rattle.sheet_refs.specs.Cells.{Corners, IsIn, Position}
use Rattle.sheet_refs.specs.Ends.{Reference}
use Rattle.sheet_refs.specs.Sizes.{is_inside, cell_count, place_of}
use Rattle.sheet_refs.specs.declared.sizes.Sizes.{Sizes}
use Rattle.value_core.specs.declared.value.ErrorKind.TheVariants.{Circ}
use Rattle.value_core.specs.declared.value.Value.{Value}
use Rattle.value_core.specs.declared.value.Value.TheVariants.{Error}
use Rattle.value_core.specs.Values.{IsValue, code_of}
use Rattle.formula_syntax.specs.Tree.{references_of}
use Rattle.formula_eval.specs.Meaning.{IsNamedBy, formula_value}
use Rattle.sheet_model.specs.Budget.{ev, StandsIn, LeadsIntoCycle}
use Rattle.sheet_model.specs.Sheets.{SheetValue, ContentValue, Constant, Computed, IsSheet, content_of}

-- one step: what a content gives over the values of the cells
abbrev pub step_content : Sizes → (Position → Value) → ContentValue → Value
step_content sizes values (Constant value) = value
step_content sizes values (Computed formula) = formula_value sizes formula values

abbrev pub step : SheetValue → Position → (Position → Value) → Value
step sheet cell values = step_content sheet.sizes values (content_of sheet cell)

-- the value of a cell that leads into a cycle
abbrev pub circular_value : Value
circular_value = Error Circ

-- the value of a cell with a budget of steps
abbrev pub budget_value : SheetValue → ℕ → Position → Value
budget_value sheet n cell = ev circular_value (step sheet) n cell

-- the value of a cell: one more step than the sheet has cells is budget enough
unfoldable pub value_of : SheetValue → Position → Value
value_of sheet cell = budget_value sheet (suc (cell_count sheet.sizes)) cell

-- the references that a content writes
abbrev pub content_references : ContentValue → List Reference
content_references (Constant value) = []
content_references (Computed formula) = references_of formula

-- the inputs of a cell: the cells of the rectangle in the ranges that its content names
pub record IsInput (sheet : SheetValue) (cell input : Position) : Type 0 where
  pub named : IsNamedBy (content_references (content_of sheet cell)) input
  pub inside : IsTrue (is_inside sheet.sizes input)

-- the codes of the values of all cells, row by row, each of them a value in range
pub record AreValues (sheet : SheetValue) (codes : List ℕ) : Type 0 where
  pub count : length codes ≡ cell_count sheet.sizes
  pub each : (cell : Position) → IsTrue (is_inside sheet.sizes cell) → slice_get codes (place_of sheet.sizes cell) ≡ Some (code_of (value_of sheet cell))
  pub values : (cell : Position) → IsTrue (is_inside sheet.sizes cell) → IsValue (value_of sheet cell)

-- the code of a cell's value stands at the cell's place, row by row, and the value is in range
pub record HasCode (sheet : SheetValue) (codes : List ℕ) (cell : Position) : Type 0 where
  pub code : slice_get codes (place_of sheet.sizes cell) ≡ Some (code_of (value_of sheet cell))
  pub value : IsValue (value_of sheet cell)

-- the same of each cell of a range
abbrev pub HaveCodes : SheetValue → List ℕ → Corners → Type 0
HaveCodes sheet codes range = (cell : Position) → IsIn cell range → HasCode sheet codes cell

-- in a sheet each cell's value is what one step gives over the values of the sheet
abbrev pub ValuesAreOneStep : Type 0
ValuesAreOneStep = (sheet : SheetValue) (cell : Position) → IsSheet sheet → value_of sheet cell ≡ step sheet cell (value_of sheet)

-- in a sheet a cell's value is #CIRC! exactly where its references lead into a cycle
abbrev pub CyclesTellCircularCells : Type 0
CyclesTellCircularCells = (sheet : SheetValue) (cell : Position) → IsSheet sheet → (value_of sheet cell ≡ circular_value) ↔ LeadsIntoCycle (IsInput sheet) cell

-- in a sheet each cell's value is in range
abbrev pub ValuesAreInRange : Type 0
ValuesAreInRange = (sheet : SheetValue) (cell : Position) → IsSheet sheet → IsValue (value_of sheet cell)

-- cells each of which has an input among them are #CIRC!
abbrev pub CellsThatWaitForEachOtherAreCircular : Type 0
CellsThatWaitForEachOtherAreCircular =
    (sheet : SheetValue) (among : Position → Bool)
    → ((cell : Position) → IsTrue (among cell) → (input : Position) × IsInput sheet cell input × IsTrue (among input))
    → (cell : Position) → IsTrue (among cell) → value_of sheet cell ≡ circular_value

-- values that are #CIRC! at the cells that lead into a cycle, and one step over themselves at all others, are those of the sheet
abbrev pub OneStepTellsTheValues : Type 0
OneStepTellsTheValues =
    (sheet : SheetValue) (values : Position → Value) → IsSheet sheet
    → ((cell : Position) → LeadsIntoCycle (IsInput sheet) cell → values cell ≡ circular_value)
    → ((cell : Position) → ¬ LeadsIntoCycle (IsInput sheet) cell → values cell ≡ step sheet cell values)
    → (cell : Position) → values cell ≡ value_of sheet cell

-- the cells that a map gives a cell as its inputs
abbrev pub IsMapped : (Position → List Position) → Position → Position → Type 0
IsMapped inputs cell input = StandsIn (inputs cell) input

-- over any map from cells to inputs, two steps that give the cells of a set, which has their inputs, the same values from the
-- same values of these give them the same values with every budget
abbrev pub AgreeingStepsGiveOneValue : Type 0
AgreeingStepsGiveOneValue =
    (inputs : Position → List Position) (kept : Position → Bool) (a b : Position → (Position → Value) → Value)
    → ((cell input : Position) → IsTrue (kept cell) → IsMapped inputs cell input → IsTrue (kept input))
    → ((cell : Position) (f g : Position → Value) → IsTrue (kept cell)
    → ((input : Position) → IsMapped inputs cell input → f input ≡ g input) → a cell f ≡ b cell g)
    → (n : ℕ) (cell : Position) → IsTrue (kept cell) → ev circular_value a n cell ≡ ev circular_value b n cell
