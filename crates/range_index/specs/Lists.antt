-- An index as a list, as contracts see it.
use Rattle.std.specs.Prelude.{ℕ, ◌-◌, List}
use Rattle.range_index.specs.Entries.{Entry}

-- its entries, and for how many more there is room
pub record ListValue : Type 0 where
  pub entries : List Entry
  pub spare : ℕ

abbrev pub list_value : List Entry → ℕ → ℕ → ListValue
list_value entries capacity count = record { entries = entries; spare = capacity - count }
