-- How the tables of an index by tiles change.
use Rattle.std.specs.Prelude.{◌≡◌, ◌≢◌, ℕ, ◌-◌, ◌≤◌, Some, None}
use Rattle.std.specs.HashMap.{spare}
use Rattle.std.specs.Map.{keys_of}
use Rattle.std.specs.List.{IsDistinct}
use Rattle.range_index.specs.declared.tiles.Home.{Home}
use Rattle.range_index.specs.declared.tiles.Slot.{Slot}
use Rattle.range_index.specs.declared.tables.Tables.{Tables}
use Rattle.range_index.specs.Entries.{Entry}
use Rattle.range_index.specs.Grids.{entry_at, count_at, stands_at, slot_of, same_slot}

-- one key has another value, and each other key has what it had
pub record SetsKey {K V : Type 0} (old new : K → V) (key : K) (value : V) : Type 0 where
  pub here : new key ≡ value
  pub others : (k : K) → k ≢ key → new k ≡ old k

-- no place is a key twice
abbrev pub HaveOneKey : Tables → Type 0
HaveOneKey tables = IsDistinct same_slot (keys_of tables.items.entries)

-- a home has another count, and nothing else has changed
pub record SetsCount (old new : Tables) (home : Home) (count : ℕ) : Type 0 where
  pub counts : SetsKey (count_at old) (count_at new) home count
  pub items : new.items ≡ old.items
  pub slots : new.slots ≡ old.slots
  pub tallest : new.tallest ≡ old.tallest
  pub widest : new.widest ≡ old.widest
  pub room : spare old.counts ≤ spare new.counts

-- the last place of a home. it has one where its count isn't 0
abbrev pub last_slot : Tables → Home → Slot
last_slot tables home = slot_of home (count_at tables home - 1)

-- nothing stands at the last place of a home now, which has one entry less
pub record TakesLast (old new : Tables) (home : Home) : Type 0 where
  pub items : SetsKey (entry_at old) (entry_at new) (last_slot old home) None
  pub counts : SetsKey (count_at old) (count_at new) home (count_at old home - 1)
  pub slots : new.slots ≡ old.slots
  pub tallest : new.tallest ≡ old.tallest
  pub widest : new.widest ≡ old.widest
  pub one_key : HaveOneKey new
  pub items_room : spare old.items ≤ spare new.items
  pub counts_room : spare old.counts ≤ spare new.counts

-- another entry stands at a place now, as is noted for its id
pub record PutsAt (old new : Tables) (slot : Slot) (entry : Entry) : Type 0 where
  pub items : SetsKey (entry_at old) (entry_at new) slot (Some entry)
  pub slots : SetsKey (stands_at old) (stands_at new) entry.id (Some slot)
  pub counts : new.counts ≡ old.counts
  pub tallest : new.tallest ≡ old.tallest
  pub widest : new.widest ≡ old.widest
  pub one_key : HaveOneKey new
  pub items_room : spare old.items ≤ spare new.items
  pub slots_room : spare old.slots ≤ spare new.slots
