-- How the changes of edits are printed.
use Rattle.std.specs.Prelude.{ℕ, List, [], ◌∷◌, ◌++◌, flat_map, codes}
use Rattle.sheet_refs.specs.Cells.{Position}
use Rattle.sheet_refs.specs.Names.{cell_text}
use Rattle.value_core.specs.declared.value.Value.TheVariants.{Empty, Number, Truth, Error, Label}
use Rattle.formula_syntax.specs.Printing.{plain}
use Rattle.sheet_model.specs.Changes.{ChangeValue}
use Rattle.sheet_model.specs.Sheets.{ContentValue}
use Rattle.sheet_model.specs.Sheets.ContentValue.{Constant, Computed}
use Rattle.window_text.specs.Texts.{shown_value}

-- a content beside a table of labels: a value as it is shown, a formula in its plain text
abbrev pub content_text : List (List ℕ) → ContentValue → List ℕ
content_text labels (Constant value) = shown_value labels value
content_text labels (Computed formula) = plain formula

-- the lines of a cell that is emptied, and of one that is filled
abbrev pub clear_line : Position → List ℕ
clear_line cell = codes "clear " ++ (cell_text cell ++ 10 ∷ [])

abbrev pub set_line : List (List ℕ) → Position → ContentValue → List ℕ
set_line labels cell content = codes "set " ++ (cell_text cell ++ 32 ∷ (content_text labels content ++ 10 ∷ []))

-- the line of a change
abbrev pub filling_line : List (List ℕ) → Position → ContentValue → List ℕ
filling_line labels cell (Constant Empty) = clear_line cell
filling_line labels cell (Constant (Number number)) = set_line labels cell (Constant (Number number))
filling_line labels cell (Constant (Truth truth)) = set_line labels cell (Constant (Truth truth))
filling_line labels cell (Constant (Error kind)) = set_line labels cell (Constant (Error kind))
filling_line labels cell (Constant (Label place)) = set_line labels cell (Constant (Label place))
filling_line labels cell (Computed formula) = set_line labels cell (Computed formula)

abbrev pub change_line : List (List ℕ) → ChangeValue → List ℕ
change_line labels change = filling_line labels change.cell change.content

-- the lines of changes, in order
abbrev pub changes_text : List (List ℕ) → List ChangeValue → List ℕ
changes_text labels changes = flat_map (change_line labels) changes

-- an edit as the lines of a script that make it
abbrev pub batch_text : List (List ℕ) → List ChangeValue → List ℕ
batch_text labels changes = codes "batch" ++ 10 ∷ (changes_text labels changes ++ (codes "end" ++ 10 ∷ []))
