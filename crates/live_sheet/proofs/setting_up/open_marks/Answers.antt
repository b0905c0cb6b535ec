-- The codes are those of the sheet that the subject is about.
use Rattle.std.proofs.Common.{List, Option, ℕ, sym, ◌∙◌, subst}
use Rattle.mark_core.specs.Runs.{IsOpening}
use Rattle.sheet_model.specs.Sheets.{SheetValue}
use Rattle.sheet_refs.specs.Sizes.{cell_count}
use Rattle.edit_log.specs.Touches.{place_worth}
use Rattle.live_sheet.specs.Openings.{opening_codes}
use Rattle.live_sheet.proofs.OpeningLemmas.{opens}
use Rattle.live_sheet.proofs.setting_up.open_marks.Goals as goal

pub open-requires-clause-right : goal.open-requires-clause-right
open-requires-clause-right c κs =
    subst (λ (codes : List (Option ℕ)). IsOpening (cell_count c.of-subject.result.sizes)
    (place_worth c.of-subject.result) codes) (sym (c.deref.ensures.value ∙ c.in_ok-codes.ensures))
    (subst (λ (s : SheetValue). IsOpening (cell_count s.sizes) (place_worth s) (opening_codes c.args.sheet.now))
    (sym c.of-subject.ensures) (opens c.args.sheet.now c.sizes-sizes.ensures.sheet))
