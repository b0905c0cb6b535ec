-- An index by tiles: where a range stands, and what the tables hold.
use Rattle.std.specs.Prelude.{◌≡◌, ◌≢◌, ◌⊎◌, ℕ, ◌-◌, ◌/◌, ◌<◌, ◌≤◌, ◌↔◌, Bool, ◌&&◌, nat_le, nat_eq, if◌then◌else◌}
use Rattle.std.specs.Prelude.{List, ◌++◌, Option, Some, None, IsSome, Contains, AllPairs, min}
use Rattle.std.specs.HashMap.{get, values, spare}
use Rattle.std.specs.Map.{lookup, keys_of}
use Rattle.std.specs.List.{IsDistinct}
use Rattle.sheet_refs.specs.Cells.{Corners, height, width}
use Rattle.sheet_refs.specs.Rectangles.{Overlap}
use Rattle.range_index.specs.Entries.{Entry}
use Rattle.range_index.specs.declared.tiles.Home.{Home}
use Rattle.range_index.specs.declared.tiles.Slot.{Slot}
use Rattle.range_index.specs.declared.tables.Tables.{Tables}

-- the height and the width of the tiles at which ranges of a height and a width stand
abbrev pub tile_height : ℕ → ℕ
tile_height rows = if nat_le rows 8 then 8 else (if nat_le rows 1024 then 1024 else (if nat_le rows 32768 then 32768 else 1048576))

abbrev pub tile_width : ℕ → ℕ
tile_width cols = if nat_le cols 1 then 1 else (if nat_le cols 64 then 64 else 16384)

-- the tile at which a range stands
abbrev pub home_of : Corners → Home
home_of range = record {
  height = tile_height (height range);
  width = tile_width (width range);
  row = (range.head.row - 1) / tile_height (height range);
  col = (range.head.col - 1) / tile_width (width range);
}

-- whether two tiles, or two places of tiles, are the same
abbrev pub same_home : Home → Home → Bool
same_home a b = nat_eq a.height b.height && (nat_eq a.width b.width && (nat_eq a.row b.row && nat_eq a.col b.col))

abbrev pub same_slot : Slot → Slot → Bool
same_slot a b = same_home a.home b.home && nat_eq a.place b.place

-- how many entries stand at a home
abbrev pub or_none : Option ℕ → ℕ
or_none None = 0
or_none (Some count) = count

abbrev pub count_at : Tables → Home → ℕ
count_at tables home = or_none (get same_home tables.counts home)

-- what stands at a place of a home
abbrev pub entry_at : Tables → Slot → Option Entry
entry_at tables slot = get same_slot tables.items slot

-- a place of a home
abbrev pub slot_of : Home → ℕ → Slot
slot_of home place = record { home = home; place = place }

-- a range that has no more rows and columns than there are names
pub record FitsNames (range : Corners) : Type 0 where
  pub high : height range ≤ 1048576
  pub wide : width range ≤ 16384

-- where an id stands
abbrev pub stands_at : Tables → ℕ → Option Slot
stands_at tables id = get nat_eq tables.slots id

-- a home of a kind that is no higher and no wider
pub record IsReachedKind (tallest widest : ℕ) (home : Home) : Type 0 where
  pub high : home.height ≤ tallest
  pub wide : home.width ≤ widest

-- what stands at the places of homes, given how many entries each home has, where each id stands, and the highest and
-- the widest tiles at which anything stands: the entries of a home have its first places, and each is at its own home
pub record IsGrid (at : Slot → Option Entry) (count : Home → ℕ) (stands : ℕ → Option Slot) (tallest widest : ℕ) : Type 0 where
  pub full : (home : Home) (place : ℕ) → place < count home → IsSome (at (slot_of home place))
  pub counted : (slot : Slot) (entry : Entry) → at slot ≡ Some entry → slot.place < count slot.home
  pub at_home : (slot : Slot) (entry : Entry) → at slot ≡ Some entry → slot.home ≡ home_of entry.range
  pub fits : (slot : Slot) (entry : Entry) → at slot ≡ Some entry → FitsNames entry.range
  pub reached : (slot : Slot) (entry : Entry) → at slot ≡ Some entry → IsReachedKind tallest widest slot.home
  pub noted : (slot : Slot) (entry : Entry) → at slot ≡ Some entry → stands entry.id ≡ Some slot

-- the same of the entries of three maps
pub record AreGrid (items : List (Slot × Entry)) (counts : List (Home × ℕ)) (slots : List (ℕ × Slot)) (tallest widest : ℕ) : Type 0 where
  pub unique : IsDistinct same_slot (keys_of items)
  pub grid : IsGrid (λ slot. lookup (same_slot slot) items) (λ home. or_none (lookup (same_home home) counts)) (λ id. lookup (nat_eq id) slots) tallest widest

-- and of tables
abbrev pub HoldGrid : Tables → Type 0
HoldGrid tables = AreGrid tables.items.entries tables.counts.entries tables.slots.entries tables.tallest tables.widest

-- the entries of tables
abbrev pub entries_in : Tables → List Entry
entries_in tables = values tables.items

-- an id stands at one of some places, with a range that overlaps a query
pub record IsFound (at : Slot → Option Entry) (Visited : Slot → Type 0) (query : Corners) (id : ℕ) : Type 0 where
  pub slot : Slot
  pub entry : Entry
  pub visited : Visited slot
  pub here : at slot ≡ Some entry
  pub id_is : entry.id ≡ id
  pub overlaps : Overlap entry.range query

-- a list has gained exactly these ids, each once
pub record AddsFound (at : Slot → Option Entry) (Visited : Slot → Type 0) (query : Corners) (old new : List ℕ) : Type 0 where
  pub added : List ℕ
  pub whole : new ≡ old ++ added
  pub once : AllPairs (λ a b. a ≢ b) added
  pub exact : (id : ℕ) → Contains added id ↔ IsFound at Visited query id

-- the same of what stands in tables
abbrev pub AddsAt : Tables → (Slot → Type 0) → Corners → List ℕ → List ℕ → Type 0
AddsAt tables Visited query old new = AddsFound (entry_at tables) Visited query old new

-- a home of one kind and one row, between two columns, or at one of some rows, between two columns
pub record IsInRow (query : Corners) (height width row : ℕ) (slot : Slot) : Type 0 where
  pub height_is : slot.home.height ≡ height
  pub width_is : slot.home.width ≡ width
  pub row_is : slot.home.row ≡ row
  pub col_from : (query.head.col - width) / width ≤ slot.home.col
  pub col_to : slot.home.col ≤ (query.tail.col - 1) / width

pub record IsNear (query : Corners) (height width : ℕ) (slot : Slot) : Type 0 where
  pub height_is : slot.home.height ≡ height
  pub width_is : slot.home.width ≡ width
  pub row_from : (query.head.row - height) / height ≤ slot.home.row
  pub row_to : slot.home.row ≤ (query.tail.row - 1) / height
  pub col_from : (query.head.col - width) / width ≤ slot.home.col
  pub col_to : slot.home.col ≤ (query.tail.col - 1) / width

-- the same of one height and all widths
abbrev pub IsNearAt : Corners → ℕ → Slot → Type 0
IsNearAt query height slot = IsNear query height 1 slot ⊎ (IsNear query height 64 slot ⊎ IsNear query height 16384 slot)

-- for how many more entries there is room
abbrev pub room_of : Tables → ℕ
room_of tables = min (spare tables.items) (min (spare tables.counts) (spare tables.slots))

-- an index by tiles, as contracts see it
pub record GridValue : Type 0 where
  pub entries : List Entry
  pub spare : ℕ

abbrev pub grid_value : Tables → GridValue
grid_value tables = record { entries = entries_in tables; spare = room_of tables }
