-- Reading records one after the other, and what is known of those that were read.
use Rattle.std.specs.Prelude.{◌≡◌, ℕ, ◌+◌, ◌<◌, slice_index_or, List, [], Option, Some, true, MatchOption, length}
use Rattle.csv.specs.Reading.{Reached, Ready, source_of, default_config}
use Rattle.csv.specs.declared.reader.Reader.{Reader}
use Rattle.csv.specs.declared.reader.Trim.TheVariants as trim
use Rattle.csv.specs.declared.parser.State.TheVariants.{StartRecord}
use Rattle.csv_sheet.specs.Records.{Rows, cell_there, longest}
use Rattle.csv_sheet.specs.Results.{AreText, IsFirstNotText, IsFirstField, NoField, IsLong}
use Rattle.csv_sheet.specs.declared.extent.Extent.{Extent}

-- the reader has given these records of a text, and reads on
pub record HasReadRecords {R : Type 0} (left : R → Option (List ℕ)) (text : List ℕ) (rows : Rows) (reader : Reader R) : Type 0 where
  pub plain : reader.trim ≡ trim.None
  pub ready : Ready reader
  pub config : reader.config ≡ default_config
  pub flexible : reader.flexible ≡ true
  pub rest : List ℕ
  pub source : source_of left reader ≡ Some rest
  pub reached : Reached default_config StartRecord text rows reader.state rest

-- the extent of records: their number, the length of the longest, the first that isn't text, and the first field
-- that is too long
pub record Measures (rows : Rows) (extent : Extent) : Type 0 where
  pub count : extent.rows ≡ length rows
  pub cols : extent.cols ≡ longest rows
  pub text : MatchOption extent.not_text (AreText rows) (λ row. IsFirstNotText rows (row + 1))
  pub short : MatchOption extent.long (NoField IsLong rows)
      (λ place. IsFirstField IsLong rows (cell_there place.0 place.1))

-- no field is too long
abbrev pub AreShort : List (List ℕ) → Type 0
AreShort fields = (col : ℕ) → col < length fields → ¬ IsLong (slice_index_or fields col [])

-- the column of the first field that is
pub record IsFirstLong (fields : List (List ℕ)) (col : ℕ) : Type 0 where
  pub within : col < length fields
  pub long : IsLong (slice_index_or fields col [])
  pub before : (c : ℕ) → c < col → ¬ IsLong (slice_index_or fields c [])
