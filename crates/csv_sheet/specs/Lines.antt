-- Texts without quotes, whose records are their lines.
use Rattle.std.specs.Prelude.{◌≡◌, ◌==◌, ◌||◌, not, if◌then◌else◌, ℕ, ◌+◌, ◌≤◌, Bool, false, List, [], ◌∷◌, ◌++◌, length, IsTrue}
use Rattle.std.specs.List.{list_any}
use Rattle.std.specs.Str.{IsAscii}
use Rattle.csv_sheet.specs.Records.{Rows, longest}
use Rattle.csv_sheet.specs.Results.{AreText, NoField, IsLong}
use Rattle.csv_sheet.specs.declared.lines.Lines.{Lines}

-- whether a byte goes on with a line
abbrev pub goes_on : ℕ → Bool
goes_on b = not ((b == 13) || (b == 10))

-- whether a text has a quote
abbrev pub has_quote : List ℕ → Bool
has_quote text = list_any (λ b. b == 34) text

-- whether a byte stands between two fields
abbrev pub is_comma : ℕ → Bool
is_comma b = b == 44

-- whether a byte goes on with a field of a line
abbrev pub goes_on_field : ℕ → Bool
goes_on_field b = not (is_comma b)

-- what stands between the commas of a line, of whose first field some bytes are known
unfoldable pub line_fields : List ℕ → List ℕ → List (List ℕ)
line_fields field [] = field ∷ []
line_fields field (b ∷ bs) = if b == 44 then field ∷ line_fields [] bs else line_fields (field ++ b ∷ []) bs

-- the record of a line; one without bytes has none
abbrev pub rows_in : List ℕ → Rows
rows_in [] = []
rows_in (b ∷ bs) = line_fields [] (b ∷ bs) ∷ []

-- the records of all lines of a text, of whose first line some bytes are known
unfoldable pub rows_from : List ℕ → List ℕ → Rows
rows_from line [] = rows_in line
rows_from line (b ∷ bs) = if goes_on b then rows_from (line ++ b ∷ []) bs else rows_in line ++ rows_from [] bs

abbrev pub text_rows : List ℕ → Rows
text_rows text = rows_from [] text

-- the number of records and the length of the longest, of which each is text, and that no field is too long, if it is said
pub record AreCounted (rows : Rows) (lines : Lines) : Type 0 where
  pub count : lines.rows ≡ length rows
  pub cols : lines.cols ≡ longest rows
  pub text : AreText rows
  pub short : IsTrue lines.short → NoField IsLong rows

-- a text whose records are its lines
pub record IsPlain (text : List ℕ) : Type 0 where
  pub ascii : IsAscii text
  pub unquoted : has_quote text ≡ false

-- so many lines of a text were counted, up to what is left of it
pub record HasCounted (text left : List ℕ) (lines : Lines) : Type 0 where
  pub rows : Rows
  pub split : text_rows text ≡ rows ++ text_rows left
  pub counted : AreCounted rows lines
  pub few : lines.rows + length left ≤ length text
  pub ascii : IsAscii left

-- and all of them, which are the records
pub record IsCountOf (text : List ℕ) (lines : Lines) : Type 0 where
  pub plain : IsPlain text
  pub counted : AreCounted (text_rows text) lines
  pub few : lines.rows ≤ length text
