-- What an edit leaves of the values that a book keeps, or someone else.
use Rattle.std.proofs.Common.{◌≡◌, All, IsTrue, List, ap, subst, sym, ◌∙◌}
use Rattle.std.specs.Prelude.{IfSome, Option, None, Some}
use Rattle.sheet_refs.specs.Cells.{Position}
use Rattle.sheet_refs.specs.Sizes.{is_inside}
use Rattle.graph_walk.specs.Graphs.{Pair}
use Rattle.sheet_model.specs.Edits.{after_edit}
use Rattle.sheet_model.specs.KeptValues.{ForgetsValues, HasSameValuesBeside, KeepsValuesOf}
use Rattle.sheet_model.specs.Logs.{after}
use Rattle.sheet_model.specs.Sheets.{IsSheet, SheetValue}
use Rattle.sheet_model.specs.Values.{value_of}
use Rattle.sheet_model.specs.declared.entry.Entry.{Entry}
use Rattle.sheet_model.specs.declared.kept_values.KeptValues.{KeptValues}
use Rattle.sheet_model.proofs.EditLemmas.{edit-sizes}
use Rattle.sheet_model.proofs.LogLemmas.{after-sheet, after-sizes}
use Rattle.edit_log.specs.Books.{IsBookOf}
use Rattle.edit_log.specs.Kept.{Depends, value-kept}
use Rattle.edit_log.specs.Touches.{AreTouched}

-- a sheet that is edited gives the cells that the edit doesn't touch the values that they had
pub same_beside : (opening sheet edited : SheetValue) (log : List Entry) (entry : Entry) (cells : List Position)
    → sheet ≡ after opening log → AreTouched opening log entry cells → IsSheet edited
    → edited ≡ after_edit sheet entry.edit → HasSameValuesBeside sheet cells edited
same_beside opening sheet edited log entry cells replayed are is edited_is = record {
  is_sheet = is;
  sizes = ap (λ (s : SheetValue). s.sizes) edited_is ∙ edit-sizes sheet entry.edit;
  same = λ cell inside spared.
      ap (λ s. value_of s cell) edited_is
      ∙ value-kept sheet entry.edit cell (λ depends. spared ((are.exact cell).1 (subst (λ s. Depends s entry.edit cell) replayed depends)));
}

-- the touched cells lie in the sheet that a book lends
pub touched_inside : (opening sheet lent : SheetValue) (log : List Entry) (touched cells : List Position)
    → lent ≡ sheet → sheet ≡ after opening log → cells ≡ touched
    → All (λ cell. IsTrue (is_inside opening.sizes cell)) touched → All (λ cell. IsTrue (is_inside lent.sizes cell)) cells
touched_inside opening sheet lent log touched cells lent_is replayed cells_are inside =
    let sizes : lent.sizes ≡ opening.sizes = ap (λ (s : SheetValue). s.sizes) (lent_is ∙ replayed) ∙ after-sizes opening log in
    subst (All (λ cell. IsTrue (is_inside lent.sizes cell))) (sym cells_are)
    (subst (λ s. All (λ cell. IsTrue (is_inside s cell)) touched) (sym sizes) inside)

-- the sheet of a book is one
pub book_sheet : (opening sheet : SheetValue) (log : List Entry) (pairs : List Pair) → IsBookOf opening sheet log pairs → IsSheet sheet
book_sheet opening sheet log pairs is = subst IsSheet (sym is.replayed) (after-sheet opening log is.opened is.held)

-- so what is left where the touched cells are forgotten are values of the edited sheet
pub kept_through : (sheet edited : SheetValue) (cells : List Position) (values : Option KeptValues)
    → IfSome values (ForgetsValues sheet cells) → HasSameValuesBeside sheet cells edited → IfSome values (KeepsValuesOf edited)
kept_through sheet edited cells None forgets same = tt
kept_through sheet edited cells (Some kept) forgets same = forgets edited same
