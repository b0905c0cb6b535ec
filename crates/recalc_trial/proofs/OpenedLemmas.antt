-- Words over a sheet as they open.
use Rattle.std.proofs.Common.{◌≡◌, ◌∙◌, ap}
use Rattle.sheet_refs.specs.Sizes.{cell_count}
use Rattle.mark_words.specs.declared.marks.Marks.{Marks}
use Rattle.mark_words.specs.declared.seats.Seat.{Seat}
use Rattle.mark_words.specs.Tokens.{places_of}
use Rattle.sheet_model.specs.Sheets.{SheetValue}
use Rattle.sheet_model.specs.declared.entry.Entry.{Entry}
use Rattle.edit_log.specs.contracts.over_sheet.OverSheetSubject.TheImpl.{ghosts}
use Rattle.recalc_trial.specs.Opened.{IsOpenedOver}

-- there is a place for each cell
pub places_are : (sheet : SheetValue) (marks : Marks SheetValue Entry) (editor : Seat SheetValue Entry ghosts)
    → IsOpenedOver sheet (marks, editor) → places_of marks ≡ cell_count sheet.sizes
places_are sheet marks editor opened = opened.seat.same_places ∙ ap (λ (s : SheetValue). cell_count s.sizes) opened.subject
