-- What the text of an edit says as a script over the same sheet.
use Rattle.std.specs.Prelude.{◌≡◌, ℕ, List, [], ◌∷◌, All, IsTrue, codes}
use Rattle.sheet_refs.specs.Cells.{Position, Corners, IsIn, IsNamed, IsOrdered}
use Rattle.sheet_refs.specs.Sizes.{is_inside}
use Rattle.value_core.specs.declared.value.Value.TheVariants.{Empty, Number, Truth, Error, Label}
use Rattle.formula_syntax.specs.declared.edition.Edition.{Edition}
use Rattle.formula_syntax.specs.Editions.{IsWithin}
use Rattle.sheet_model.specs.Changes.{ChangeValue}
use Rattle.sheet_model.specs.Edits.{EditValue}
use Rattle.sheet_model.specs.Labels.{IsTable}
use Rattle.sheet_model.specs.Sheets.{SheetValue, ContentValue, Constant, Computed, IsSheet, IsWritten, content_of}
use Rattle.edit_script.specs.Scripts.{IsScript, ScriptValue, ground_of}
use Rattle.edit_script.specs.declared.script.Command.TheVariants as asks
use Rattle.edit_script.specs.declared.script.Mode.{Mode}
use Rattle.window_text.specs.Changes.{batch_text}
use Rattle.sheet_fill.specs.Filling.{filled}

-- a content that its own text writes in an edition: no label, since the text of one stands between quotes, and no formula
-- with a function that the edition lacks
abbrev pub WritesItself : Edition → ContentValue → Type 0
WritesItself edition (Constant Empty) = Unit {0}
WritesItself edition (Constant (Number number)) = Unit {0}
WritesItself edition (Constant (Truth truth)) = Unit {0}
WritesItself edition (Constant (Error kind)) = Unit {0}
WritesItself edition (Constant (Label place)) = ⊥
WritesItself edition (Computed tree) = IsWithin edition tree

-- a change of a cell that has a name, to such a content
pub record IsWritable (edition : Edition) (change : ChangeValue) : Type 0 where
  pub named : IsNamed change.cell.row change.cell.col
  pub written : IsWritten change.content
  pub itself : WritesItself edition change.content

-- one step of the client `main`, which makes an edit
abbrev pub one_edit : EditValue → ScriptValue
one_edit edit = record { names = codes "main" ∷ []; steps = record { client = 0; command = asks.Put edit } ∷ [] }

-- where the text of an edit is a script over the sheet, it is that one edit, and brings no label
pub record SaysEdit (sheet : SheetValue) (edit : EditValue) (labels : List (List ℕ)) (script : ScriptValue) : Type 0 where
  pub script_is : script ≡ one_edit edit
  pub labels_are : labels ≡ sheet.labels

abbrev pub TextsOfEditsAreTheirScripts : Type 0
TextsOfEditsAreTheirScripts =
    (mode : Mode) (sheet : SheetValue) (edit : EditValue) (labels : List (List ℕ)) (script : ScriptValue)
    → IsTable sheet.labels → All (IsWritable sheet.edition) edit
    → IsScript mode (ground_of sheet) sheet.labels labels (batch_text sheet.labels edit) script
    → SaysEdit sheet edit labels script

-- so it is of an edit that fills a range of the sheet, where the source is such a content
abbrev pub TextsOfFillsAreTheirScripts : Type 0
TextsOfFillsAreTheirScripts =
    (mode : Mode) (sheet : SheetValue) (from : Position) (range : Corners) (labels : List (List ℕ)) (script : ScriptValue)
    → IsSheet sheet → IsOrdered range.head range.tail → ((inner : Position) → IsIn inner range → IsTrue (is_inside sheet.sizes inner))
    → WritesItself sheet.edition (content_of sheet from)
    → IsScript mode (ground_of sheet) sheet.labels labels (batch_text sheet.labels (filled sheet from range)) script
    → SaysEdit sheet (filled sheet from range) labels script
