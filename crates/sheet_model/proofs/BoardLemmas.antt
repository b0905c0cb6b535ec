-- What a board shows of what was seen.
use Rattle.std.proofs.Common.{ℕ, ◌∙◌, ap}
use Rattle.value_core.specs.Decoding.{value_of_word, value_of_its_code}
use Rattle.sheet_model.specs.Seen.{CodesShowTheirValues, WorthsShowTheirValues}
use Rattle.sheet_model.specs.Logs.{after}
use Rattle.sheet_model.specs.Values.{value_of}
use Rattle.sheet_model.specs.declared.board.Shown.TheVariants as shown
use Rattle.sheet_model.proofs.LogLemmas.{after-sheet}
use Rattle.sheet_model.proofs.SheetValues.{value_in_range}

pub codes_show : CodesShowTheirValues
codes_show value is = ap shown.Value (value_of_its_code value is)

pub worths_show : WorthsShowTheirValues
worths_show opening places worth log cell of_sheet is held inside =
    ap (λ (word : ℕ). shown.Value (value_of_word word)) (of_sheet.values log cell inside)
    ∙ codes_show (value_of (after opening log) cell) (value_in_range (after opening log) cell (after-sheet opening log is held))
