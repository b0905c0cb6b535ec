-- What a live sheet begins with.
use Rattle.std.specs.Prelude.{ℕ, List, Option, Some, None, map}
use Rattle.value_core.specs.Values.{code_of}
use Rattle.sheet_model.specs.Sheets.{SheetValue, ContentValue, Constant, Computed}

-- the code with which a cell opens: a constant's, and none where a formula is to be computed
abbrev pub code_before : ContentValue → Option ℕ
code_before (Constant value) = Some (code_of value)
code_before (Computed formula) = None

-- those of all cells, row by row
abbrev pub opening_codes : SheetValue → List (Option ℕ)
opening_codes sheet = map code_before sheet.contents
