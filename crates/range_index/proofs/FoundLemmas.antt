-- The ids that are found near a query are those whose ranges overlap it.
use Rattle.std.proofs.Common.{◌⊎◌, ℕ, List, Option, refl, subst}
use Rattle.std.specs.List.{Contains}
use Rattle.std.specs.Map.{lookup, values_of}
use Rattle.sheet_refs.specs.Cells.{Corners}
use Rattle.range_index.specs.declared.tiles.Home.{Home}
use Rattle.range_index.specs.declared.tiles.Slot.{Slot}
use Rattle.range_index.specs.Entries.{Entry, entry_of, IsOverlapping, AddsOverlapping}
use Rattle.range_index.specs.Grids.{AreGrid, IsFound, AddsFound, IsNearAt, same_slot}
use Rattle.range_index.proofs.NearLemmas.{near}
use Rattle.range_index.proofs.SlotLemmas.{stands_somewhere}

-- near a query, of any kind
abbrev pub IsNearAny : Corners → Slot → Type 0
IsNearAny query slot = IsNearAt query 8 slot ⊎ (IsNearAt query 1024 slot ⊎ (IsNearAt query 32768 slot ⊎ IsNearAt query 1048576 slot))

pub all_found : {items : List (Slot × Entry)} {counts : List (Home × ℕ)} {slots : List (ℕ × Slot)} {tallest widest : ℕ}
    (query : Corners) (old new : List ℕ) → AreGrid items counts slots tallest widest
    → AddsFound (λ slot. lookup (same_slot slot) items) (IsNearAny query) query old new
    → AddsOverlapping (values_of items) query old new
all_found {items} {counts} {slots} {tallest} {widest} query old new are found = record {
  added = found.added;
  whole = found.whole;
  once = found.once;
  exact = λ id. (λ there. to id ((found.exact id).0 there), λ is. (found.exact id).1 (from id is));
}
  where
    at : Slot → Option Entry
    at slot = lookup (same_slot slot) items

    to : (id : ℕ) → IsFound at (IsNearAny query) query id → IsOverlapping (values_of items) query id
    to id f = record {
      range = f.entry.range;
      listed = subst (λ (i : ℕ). Contains (values_of items) (entry_of i f.entry.range)) f.id_is
          ((stands_somewhere items are.unique f.entry).1 (f.slot, f.here));
      overlaps = f.overlaps;
    }

    from : (id : ℕ) → IsOverlapping (values_of items) query id → IsFound at (IsNearAny query) query id
    from id is =
        let (slot, here) = (stands_somewhere items are.unique (entry_of id is.range)).0 is.listed in
        let fits = are.grid.fits slot (entry_of id is.range) here in
        record {
          slot = slot;
          entry = entry_of id is.range;
          visited = near query is.range slot fits.high fits.wide (are.grid.at_home slot (entry_of id is.range) here) is.overlaps;
          here = here;
          id_is = refl;
          overlaps = is.overlaps;
        }
