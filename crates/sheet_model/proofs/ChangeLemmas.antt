-- What a change does to a sheet.
use Rattle.std.proofs.Common.{◌≡◌, ◌≢◌, Bool, true, false, cond, length, IsTrue, refl, ◌∙◌, ap, length-set}
use Rattle.sheet_refs.specs.Cells.{Position}
use Rattle.sheet_refs.specs.Sizes.{is_inside, cell_count, place_of}
use Rattle.sheet_model.specs.Changes.{ChangeValue, after_change}
use Rattle.sheet_model.specs.Sheets.{SheetValue, IsSheet, IsHeld, content_of, with_content}
use Rattle.sheet_model.proofs.SheetLemmas.{content_of-filled, content_of-other, sheet_with_content}

-- a change keeps the sizes and the labels
pub change-edition : (sheet : SheetValue) (change : ChangeValue) → (after_change sheet change).edition ≡ sheet.edition
change-edition sheet change = go (is_inside sheet.sizes change.cell)
  where
    go : (b : Bool) → (cond b (with_content sheet change.cell change.content) sheet).edition ≡ sheet.edition
    go true = refl
    go false = refl

pub change-sizes : (sheet : SheetValue) (change : ChangeValue) → (after_change sheet change).sizes ≡ sheet.sizes
change-sizes sheet change = go (is_inside sheet.sizes change.cell)
  where
    go : (b : Bool) → (cond b (with_content sheet change.cell change.content) sheet).sizes ≡ sheet.sizes
    go true = refl
    go false = refl

pub change-labels : (sheet : SheetValue) (change : ChangeValue) → (after_change sheet change).labels ≡ sheet.labels
change-labels sheet change = go (is_inside sheet.sizes change.cell)
  where
    go : (b : Bool) → (cond b (with_content sheet change.cell change.content) sheet).labels ≡ sheet.labels
    go true = refl
    go false = refl

-- a change of a cell of the sheet writes there
pub change-inside : (sheet : SheetValue) (change : ChangeValue) → IsTrue (is_inside sheet.sizes change.cell)
    → after_change sheet change ≡ with_content sheet change.cell change.content
change-inside sheet change inside = rw inside refl

pub change-filled : (sheet : SheetValue) (change : ChangeValue) → length sheet.contents ≡ cell_count sheet.sizes
    → length (after_change sheet change).contents ≡ cell_count (after_change sheet change).sizes
change-filled sheet change filled = go (is_inside sheet.sizes change.cell)
  where
    go : (b : Bool) → length (cond b (with_content sheet change.cell change.content) sheet).contents ≡ cell_count
        (cond b (with_content sheet change.cell change.content) sheet).sizes
    go true = length-set sheet.contents (place_of sheet.sizes change.cell) change.content ∙ filled
    go false = filled

pub change-fills : (sheet : SheetValue) (change : ChangeValue) → length sheet.contents ≡ cell_count sheet.sizes
    → IsTrue (is_inside sheet.sizes change.cell) → content_of (after_change sheet change) change.cell ≡ change.content
change-fills sheet change filled inside =
    ap (λ (s : SheetValue). content_of s change.cell) (change-inside sheet change inside) ∙ content_of-filled sheet change.cell change.content inside filled

pub change-here : (sheet : SheetValue) (change : ChangeValue) → IsSheet sheet
    → IsTrue (is_inside sheet.sizes change.cell) → content_of (after_change sheet change) change.cell ≡ change.content
change-here sheet change is inside = change-fills sheet change is.filled inside

-- and nowhere else
pub change-others : (sheet : SheetValue) (change : ChangeValue) (cell : Position) → cell ≢ change.cell
    → content_of (after_change sheet change) cell ≡ content_of sheet cell
change-others sheet change cell differs = go (is_inside sheet.sizes change.cell) refl
  where
    go : (b : Bool) → is_inside sheet.sizes change.cell ≡ b → content_of (after_change sheet change) cell ≡ content_of sheet cell
    go true inside =
        ap (λ (s : SheetValue). content_of s cell) (change-inside sheet change inside) ∙ content_of-other sheet change.cell change.content inside cell differs
    go false outside = let same : after_change sheet change ≡ sheet = rw outside refl in ap (λ (s : SheetValue). content_of s cell) same

-- a change whose content may stand beside the labels leaves a sheet
pub change-sheet : (sheet : SheetValue) (change : ChangeValue) → IsSheet sheet
    → IsHeld (length sheet.labels) change.content → IsSheet (after_change sheet change)
change-sheet sheet change is held = go (is_inside sheet.sizes change.cell)
  where
    go : (b : Bool) → IsSheet (cond b (with_content sheet change.cell change.content) sheet)
    go true = sheet_with_content sheet change.cell change.content is held
    go false = is
