-- What logs do to a sheet.
use Rattle.std.proofs.Common.{◌≡◌, ℕ, List, [], ◌∷◌, ◌++◌, length, refl, sym, ◌∙◌, subst}
use Rattle.std.proofs.lemmas.List.Elements.{All-head, All-tail}
use Rattle.sheet_model.specs.Edits.{after_edit, AreHeldBeside}
use Rattle.sheet_model.specs.Logs.{after, AreHeld}
use Rattle.sheet_model.specs.Sheets.{SheetValue, IsSheet}
use Rattle.sheet_model.specs.declared.entry.Entry.{Entry}
use Rattle.sheet_model.proofs.EditLemmas.{edit-edition, edit-sizes, edit-labels, edit-sheet}

-- one more entry makes one more edit
pub after-more : (sheet : SheetValue) (log : List Entry) (entry : Entry) → after sheet (log ++ entry ∷ []) ≡ after_edit (after sheet log) entry.edit
after-more sheet [] entry = refl
after-more sheet (first ∷ log) entry = after-more (after_edit sheet first.edit) log entry

-- a log keeps the sizes and the labels
pub after-edition : (sheet : SheetValue) (log : List Entry) → (after sheet log).edition ≡ sheet.edition
after-edition sheet [] = refl
after-edition sheet (entry ∷ log) = after-edition (after_edit sheet entry.edit) log ∙ edit-edition sheet entry.edit

pub after-sizes : (sheet : SheetValue) (log : List Entry) → (after sheet log).sizes ≡ sheet.sizes
after-sizes sheet [] = refl
after-sizes sheet (entry ∷ log) = after-sizes (after_edit sheet entry.edit) log ∙ edit-sizes sheet entry.edit

pub after-labels : (sheet : SheetValue) (log : List Entry) → (after sheet log).labels ≡ sheet.labels
after-labels sheet [] = refl
after-labels sheet (entry ∷ log) = after-labels (after_edit sheet entry.edit) log ∙ edit-labels sheet entry.edit

-- a log of entries whose contents may stand beside the labels leaves a sheet
pub after-sheet : (sheet : SheetValue) (log : List Entry) → IsSheet sheet → AreHeld (length sheet.labels) log → IsSheet (after sheet log)
after-sheet sheet [] is held = is
after-sheet sheet (entry ∷ log) is held =
    let P : ℕ → Entry → Type 0 = λ labels e. AreHeldBeside labels e.edit in
    let here : IsSheet (after_edit sheet entry.edit) = edit-sheet sheet entry.edit is (All-head (P (length sheet.labels)) entry log held) in
    after-sheet (after_edit sheet entry.edit) log here
    (subst (λ (labels : List (List ℕ)). AreHeld (length labels) log) (sym (edit-labels sheet entry.edit)) (All-tail (P (length sheet.labels)) entry log held))
