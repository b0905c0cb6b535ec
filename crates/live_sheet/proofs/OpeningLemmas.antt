-- The codes with which the words of a sheet open.
use Rattle.std.proofs.Common.{◌≡◌, ◌<◌, ℕ, Option, Some, None, refl, sym, ◌∙◌, ap, subst}
use Rattle.std.proofs.lemmas.List.{length-map}
use Rattle.std.specs.Prelude.{slice_get, IsTrue, option_map}
use Rattle.std.proofs.lemmas.Option.{same_Some, none-some, slice_get-map, slice_get_within, get_or_from_slice_get}
use Rattle.sheet_refs.specs.Cells.{Position}
use Rattle.sheet_refs.specs.Sizes.{is_inside, cell_count, place_of}
use Rattle.value_core.specs.Values.{code_of}
use Rattle.mark_core.specs.Runs.{IsOpening}
use Rattle.sheet_model.specs.Sheets.{SheetValue, ContentValue, Constant, Computed, IsSheet, content_of}
use Rattle.sheet_model.specs.Values.{value_of, step_content}
use Rattle.sheet_model.proofs.SheetValues.{one_step}
use Rattle.edit_log.specs.Kept.{cell_at-inside, cell_at-place_of}
use Rattle.edit_log.specs.Touches.{cell_at, place_worth}
use Rattle.live_sheet.specs.Openings.{code_before, opening_codes}

-- what stands in a cell of a sheet that is inside
content_there : (sheet : SheetValue) (cell : Position) (content : ContentValue) → IsTrue (is_inside sheet.sizes cell)
    → slice_get sheet.contents (place_of sheet.sizes cell) ≡ Some content → content_of sheet cell ≡ content
content_there sheet cell content inside stands =
    rw inside (get_or_from_slice_get sheet.contents (place_of sheet.sizes cell) content _ stands)

-- a code before evaluation is that of the value, whatever the values are
code_is_step : (sheet : SheetValue) (cell : Position) (o : Option ContentValue) (code : ℕ)
    → option_map code_before o ≡ Some (Some code) → (content : ContentValue) × (o ≡ Some content)
    × (code ≡ code_of (step_content sheet.sizes (value_of sheet) content))
code_is_step sheet cell None code is = absurd (none-some (Some code) is)
code_is_step sheet cell (Some (Constant value)) code is = (Constant value, refl, same_Some _ _ (sym (same_Some _ _ is)))
code_is_step sheet cell (Some (Computed formula)) code is = absurd (none-some code (same_Some _ _ is))

pub opens : (sheet : SheetValue) → IsSheet sheet → IsOpening (cell_count sheet.sizes) (place_worth sheet) (opening_codes sheet)
opens sheet is =
    record {
      count = length-map sheet.contents code_before ∙ is.filled;
      codes = λ place code stands.
          let found = code_is_step sheet (cell_at sheet.sizes place) (slice_get sheet.contents place) code
          (sym (slice_get-map code_before sheet.contents place) ∙ stands) in
          let within : place < cell_count sheet.sizes = subst (λ n. place < n) is.filled (slice_get_within sheet.contents place found.0 found.1) in
          let inside = cell_at-inside sheet.sizes place within in
          let at = cell_at-place_of sheet.sizes place within in
          let there : content_of sheet (cell_at sheet.sizes place) ≡ found.0 =
          content_there sheet (cell_at sheet.sizes place) found.0 inside (ap (slice_get sheet.contents) at ∙ found.1) in
          found.2 ∙ ap code_of (sym (one_step sheet (cell_at sheet.sizes place) is ∙ ap (step_content sheet.sizes (value_of sheet)) there));
    }
