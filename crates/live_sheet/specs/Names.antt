-- Names for a live sheet that isn't there, from which a caller's own pick differs.
use Rattle.std.specs.Prelude.{[]}
use Rattle.atomic_table.specs.Seated.{TableId}
use Rattle.formula_syntax.specs.declared.edition.Edition.TheVariants.{One}
use Rattle.sheet_model.specs.Sheets.{SheetValue}

abbrev pub no_table : TableId
no_table = record { words = 0; slots = 0; views_name = 0; atom = 0; block = 0; offset = 0; slot_names = [] }

abbrev pub no_sheet : SheetValue
no_sheet = record { edition = One; sizes = record { rows = 0; cols = 0 }; contents = []; labels = [] }
