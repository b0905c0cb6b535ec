-- Which contents of a sheet are read back from their printed text.
use Rattle.std.specs.Prelude.{◌≡◌, ◌↔◌, List, ℕ}
use Rattle.sheet_refs.specs.Cells.{Position}
use Rattle.value_core.specs.declared.value.ErrorKind.TheVariants.{Name}
use Rattle.value_core.specs.declared.value.Value.TheVariants.{Error}
use Rattle.formula_syntax.specs.Editions.{IsWithin}
use Rattle.formula_syntax.specs.Printing.{plain}
use Rattle.formula_syntax.specs.Spelling.{IsTooDeep}
use Rattle.formula_syntax.specs.Tree.{Tree}
use Rattle.sheet_model.specs.Fields.{IsContent}
use Rattle.sheet_model.specs.Sheets.{SheetValue, Constant, Computed, IsSheet, content_of}
use Rattle.window_text.specs.Changes.{content_text}
use Rattle.sheet_fill.specs.FilledTexts.{WritesItself}

-- how a cell's content is printed
abbrev pub printed : SheetValue → Position → List ℕ
printed sheet cell = content_text sheet.labels (content_of sheet cell)

-- a content that its own text writes in the sheet's edition is read back as itself, whatever labels there are, unless its
-- text opens too many parentheses
abbrev pub ContentsAreReadBack : Type 0
ContentsAreReadBack =
    (sheet : SheetValue) (cell : Position) (labels : List (List ℕ)) → IsSheet sheet
    → WritesItself sheet.edition (content_of sheet cell) → ¬ IsTooDeep (printed sheet cell)
    → IsContent sheet.edition labels (printed sheet cell) (content_of sheet cell)

-- a formula is read back as itself exactly where the edition has each of its functions and its text doesn't open too many
-- parentheses
abbrev pub FormulasAreReadBack : Type 0
FormulasAreReadBack =
    (sheet : SheetValue) (cell : Position) (formula : Tree) (labels : List (List ℕ)) → IsSheet sheet
    → content_of sheet cell ≡ Computed formula
    → IsContent sheet.edition labels (plain formula) (Computed formula) ↔ (IsWithin sheet.edition formula × ¬ IsTooDeep (plain formula))

-- with a function that the edition lacks it is read as `#NAME?`
abbrev pub FormulasThatTheEditionLacks : Type 0
FormulasThatTheEditionLacks =
    (sheet : SheetValue) (cell : Position) (formula : Tree) (labels : List (List ℕ)) → IsSheet sheet
    → content_of sheet cell ≡ Computed formula → ¬ IsWithin sheet.edition formula → ¬ IsTooDeep (plain formula)
    → IsContent sheet.edition labels (plain formula) (Constant (Error Name))
