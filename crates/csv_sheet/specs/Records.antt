-- The text of a sheet as records of fields.
use Rattle.std.specs.Prelude.{ℕ, ◌+◌, max, if◌then◌else◌, List, [], ◌∷◌, length, flat_map, fold, slice_index_or}
use Rattle.csv.specs.Reading.{AreRecords, default_config, is_bom}
use Rattle.csv.specs.declared.parser.State.TheVariants.{StartRecord}
use Rattle.sheet_refs.specs.Cells.{Position}
use Rattle.sheet_refs.specs.declared.sizes.Sizes.{Sizes}

-- records, each a list of fields, each a list of bytes
abbrev pub Rows : Type 0
Rows = List (List (List ℕ))

-- a text without the byte order marks at its front
abbrev pub without_marks : List ℕ → List ℕ
without_marks [] = []
without_marks (a ∷ []) = a ∷ []
without_marks (a ∷ b ∷ []) = a ∷ b ∷ []
without_marks (a ∷ b ∷ c ∷ rest) = if is_bom a b c then without_marks rest else a ∷ b ∷ c ∷ rest

-- the records of a text without such marks as `csv` reads them, with no header row
abbrev pub HasRows : List ℕ → Rows → Type 0
HasRows text rows = AreRecords default_config StartRecord text rows

-- the fields of a record, counted from 0
abbrev pub fields_at : Rows → ℕ → List (List ℕ)
fields_at rows row = slice_index_or rows row []

-- all fields, row by row
abbrev pub all_fields : Rows → List (List ℕ)
all_fields rows = flat_map (λ fields. fields) rows

-- the field at a row and a column, both counted from 0; past a record's last field there are no bytes
abbrev pub field_at : Rows → ℕ → ℕ → List ℕ
field_at rows row col = slice_index_or (fields_at rows row) col []

-- the cell in which that field stands
abbrev pub cell_there : ℕ → ℕ → Position
cell_there row col = record { row = row + 1; col = col + 1 }

-- the length of the longest record
abbrev pub longest : Rows → ℕ
longest rows = fold (λ most row. max most (length row)) 0 rows

-- a row for each record, as wide as the longest one
abbrev pub sizes_of : Rows → Sizes
sizes_of rows = record { rows = length rows; cols = longest rows }
