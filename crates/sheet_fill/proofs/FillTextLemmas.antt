-- The text of an edit that fills a range, taken as a script.
use Rattle.std.proofs.Common.{ℕ, List, All, IsTrue, arith, subst}
use Rattle.std.proofs.Math.Nat.{le-mul_of_pos_right}
use Rattle.sheet_refs.specs.Cells.{Position, Corners, IsIn, IsNamed, IsOrdered}
use Rattle.sheet_refs.specs.Sizes.{is_inside}
use Rattle.sheet_refs.proofs.Grid.{cells_listed}
use Rattle.sheet_refs.proofs.Places.{inside_bounds}
use Rattle.formula_syntax.specs.declared.edition.Edition.{Edition}
use Rattle.formula_syntax.proofs.Shifts.{formula_kept}
use Rattle.formula_syntax.proofs.Withins.{stays_within}
use Rattle.sheet_model.specs.Sheets.{Computed, Constant, ContentValue, IsSheet, IsWritten, SheetValue, content_of}
use Rattle.sheet_model.proofs.ListMembers.{all_from}
use Rattle.sheet_model.proofs.SheetLemmas.{held_of}
use Rattle.edit_script.specs.Scripts.{IsScript, ScriptValue, ground_of}
use Rattle.edit_script.specs.declared.script.Mode.{Mode}
use Rattle.window_text.specs.Changes.{batch_text}
use Rattle.sheet_fill.specs.FilledTexts.{IsWritable, SaysEdit, WritesItself}
use Rattle.sheet_fill.specs.Filling.{copied, filled, way}
use Rattle.sheet_fill.proofs.FillLemmas.{filled_cell}
use Rattle.sheet_fill.proofs.ScriptLemmas.{says_edit}

-- a copy is written, and writes itself, where the source does
copied_written : (from to : Position) (content : ContentValue) → IsWritten content → IsWritten (copied from to content)
copied_written from to (Constant v) written = written
copied_written from to (Computed t) written = formula_kept (way from.row to.row) (way from.col to.col) t written

copied_itself : (edition : Edition) (from to : Position) (content : ContentValue) → WritesItself edition content
    → WritesItself edition (copied from to content)
copied_itself edition from to (Constant v) itself = itself
copied_itself edition from to (Computed t) itself = stays_within edition (way from.row to.row) (way from.col to.col) t itself

-- a cell of a sheet has a name
inside_named : (sheet : SheetValue) (cell : Position) → IsSheet sheet → IsTrue (is_inside sheet.sizes cell) → IsNamed cell.row cell.col
inside_named sheet cell is inside =
    let bounds = inside_bounds sheet.sizes cell inside in
    let low = bounds.col_from in
    let high = bounds.col_to in
    let tall = le-mul_of_pos_right {m = sheet.sizes.cols} sheet.sizes.rows (omega (arith, low, high)) in
    let cells = is.size.cells in
    let narrow = is.size.narrow in
    let row = bounds.row_to in
    record {
      row_from = bounds.row_from;
      row_to = omega (arith, row, tall, cells);
      col_from = bounds.col_from;
      col_to = omega (arith, high, narrow);
    }

filled_writable : (sheet : SheetValue) (from : Position) (range : Corners) → IsSheet sheet → IsOrdered range.head range.tail
    → ((inner : Position) → IsIn inner range → IsTrue (is_inside sheet.sizes inner))
    → WritesItself sheet.edition (content_of sheet from) → All (IsWritable sheet.edition) (filled sheet from range)
filled_writable sheet from range is ordered inside itself = all_from (IsWritable sheet.edition) (filled sheet from range) (λ change there.
    let (cell, listed, differs, change_is) = filled_cell sheet from range change there in
    subst (IsWritable sheet.edition) change_is (record {
      named = inside_named sheet cell is (inside cell ((cells_listed range ordered cell).0 listed));
      written = copied_written from cell (content_of sheet from) (held_of sheet is from).written;
      itself = copied_itself sheet.edition from cell (content_of sheet from) itself;
    }))

pub fill_says : (mode : Mode) (sheet : SheetValue) (from : Position) (range : Corners) (labels : List (List ℕ)) (script : ScriptValue) → IsSheet sheet
    → IsOrdered range.head range.tail → ((inner : Position) → IsIn inner range → IsTrue (is_inside sheet.sizes inner))
    → WritesItself sheet.edition (content_of sheet from)
    → IsScript mode (ground_of sheet) sheet.labels labels (batch_text sheet.labels (filled sheet from range)) script
    → SaysEdit sheet (filled sheet from range) labels script
fill_says mode sheet from range labels script is ordered inside itself script_is =
    says_edit mode sheet (filled sheet from range) labels script is.table (filled_writable sheet from range is ordered inside itself) script_is
