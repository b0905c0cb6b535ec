-- Tables after the range of an entry changed.
use Rattle.std.proofs.Common.{◌≡◌, ◌≢◌, ◌↔◌, ◌⊎◌, inl, inr, ℕ, ◌<◌, cond, List, Option, Some, sym, ◌∙◌, ap, subst, nat_eq}
use Rattle.std.specs.Option.{IsSome}
use Rattle.std.specs.List.{IsDistinct}
use Rattle.std.specs.Map.{lookup, keys_of, values_of}
use Rattle.sheet_refs.specs.Cells.{Corners}
use Rattle.range_index.specs.declared.tiles.Home.{Home}
use Rattle.range_index.specs.declared.tiles.Slot.{Slot}
use Rattle.range_index.specs.Entries.{Entry, entry_of, HasId, HasNoId, ChangesRange, Inserts, Removes}
use Rattle.range_index.specs.Grids.{AreGrid, FitsNames, IsGrid, IsReachedKind, home_of, or_none, slot_of, same_home, same_slot}
use Rattle.range_index.specs.Changes.{SetsKey}
use Rattle.range_index.proofs.ChangeLemmas.{Stands, slot_cases, some_is, some_same}
use Rattle.range_index.proofs.GridLemmas.{HasOnePlace, places_of}
use Rattle.range_index.proofs.SlotLemmas.{stands_somewhere}
use Rattle.range_index.proofs.TableLemmas.{noted_there, sets_slot}

-- an entry that comes after it was taken out

pub absent_after : (old new : List Entry) (id : ℕ) → Removes old new id → HasNoId new id
absent_after old new id removes entry there = ((removes entry).0 there).0

pub changes_by : (old less new : List Entry) (id : ℕ) (range : Corners) → Removes old less id → Inserts less new id range → ChangesRange old new id range
changes_by old less new id range removes inserts entry = (
  λ there. elim ((inserts entry).0 there) [ inl before ↦ inl ((removes entry).0 before) | inr same ↦ inr same ],
  λ either. (inserts entry).1 (elim either [ inl before ↦ inl ((removes entry).1 before) | inr same ↦ inr same ]),
)

-- an entry whose range changes at its place
module _ (at new_at : Slot → Option Entry) (slot : Slot) (id : ℕ) (was range : Corners)
    (there : at slot ≡ Some (entry_of id was)) (items : SetsKey at new_at slot (Some (entry_of id range))) where
  -- what stands at a place is the entry, or stood there before
  abbrev Stood : Slot → Entry → Type 0
  Stood s e = ((s ≡ slot) × (e ≡ entry_of id range)) ⊎ ((s ≢ slot) × (at s ≡ Some e))

  stood : (s : Slot) (e : Entry) → new_at s ≡ Some e → Stood s e
  stood s e is = elim (slot_cases s slot) [
    | inl same ↦ inl (same, some_same e (entry_of id range) (sym is ∙ ap new_at same ∙ items.here))
    | inr other ↦ inr (other, sym (items.others s other) ∙ is)
  ]

  pub grid_changed : (count : Home → ℕ) (stands : ℕ → Option Slot) (tallest widest : ℕ)
      → IsGrid at count stands tallest widest → slot.home ≡ home_of range → FitsNames range
      → IsGrid new_at count stands tallest widest
  grid_changed count stands tallest widest grid home_is fits = record {
    full = full;
    counted = λ s e is. counted s e (stood s e is);
    at_home = λ s e is. at_home s e (stood s e is);
    fits = λ s e is. fits_names s e (stood s e is);
    reached = λ s e is. is_reached s e (stood s e is);
    noted = λ s e is. noted s e (stood s e is);
  }
    where
      full : (h : Home) (p : ℕ) → p < count h → IsSome (new_at (slot_of h p))
      full h p below = elim (slot_cases (slot_of h p) slot) [
        | inl same ↦ some_is (new_at (slot_of h p)) (entry_of id range) (ap new_at same ∙ items.here)
        | inr other ↦ subst (λ (o : Option Entry). IsSome o) (sym (items.others (slot_of h p) other)) (grid.full h p below)
      ]

      counted : (s : Slot) (e : Entry) → Stood s e → s.place < count s.home
      counted s e (inl (same, is)) = subst (λ (x : Slot). x.place < count x.home) (sym same) (grid.counted slot (entry_of id was) there)
      counted s e (inr (_, before)) = grid.counted s e before

      at_home : (s : Slot) (e : Entry) → Stood s e → s.home ≡ home_of e.range
      at_home s e (inl (same, is)) = ap (λ (x : Slot). x.home) same ∙ (home_is ∙ ap (λ (x : Entry). home_of x.range) (sym is))
      at_home s e (inr (_, before)) = grid.at_home s e before

      fits_names : (s : Slot) (e : Entry) → Stood s e → FitsNames e.range
      fits_names s e (inl (same, is)) = subst (λ (x : Entry). FitsNames x.range) (sym is) fits
      fits_names s e (inr (_, before)) = grid.fits s e before

      is_reached : (s : Slot) (e : Entry) → Stood s e → IsReachedKind tallest widest s.home
      is_reached s e (inl (same, is)) = subst (λ (x : Slot). IsReachedKind tallest widest x.home) (sym same) (grid.reached slot (entry_of id was) there)
      is_reached s e (inr (_, before)) = grid.reached s e before

      noted : (s : Slot) (e : Entry) → Stood s e → stands e.id ≡ Some s
      noted s e (inl (same, is)) = ap stands (ap (λ (x : Entry). x.id) is) ∙ (grid.noted slot (entry_of id was) there ∙ ap (λ (x : Slot). Some x) (sym same))
      noted s e (inr (_, before)) = grid.noted s e before

  pub stands_changed : (entry : Entry) → HasOnePlace at → Stands new_at entry ↔ (((entry.id ≢ id) × Stands at entry) ⊎ (entry ≡ entry_of id range))
  stands_changed entry one = (λ now. to now.0 (stood now.0 entry now.1), from)
    where
      to : (s : Slot) → Stood s entry → ((entry.id ≢ id) × Stands at entry) ⊎ (entry ≡ entry_of id range)
      to s (inl (same, is)) = inr is
      to s (inr (other, before)) = inl (λ own. other (one s slot entry (entry_of id was) before there own), (s, before))

      from : ((entry.id ≢ id) × Stands at entry) ⊎ (entry ≡ entry_of id range) → Stands new_at entry
      from (inl (differ, (s, before))) =
          let other : s ≢ slot = λ same. differ (ap (λ (e : Entry). e.id) (some_same entry (entry_of id was) (sym before ∙ ap at same ∙ there))) in
          (s, items.others s other ∙ before)
      from (inr same) = (slot, items.here ∙ ap (λ (e : Entry). Some e) (sym same))

-- the same of maps
module _ {items : List (Slot × Entry)} {counts : List (Home × ℕ)} {slots : List (ℕ × Slot)} {tallest widest : ℕ}
    (new_items : List (Slot × Entry)) (id : ℕ) (range : Corners) (slot : Slot) (are : AreGrid items counts slots tallest
    widest) (is : HasId (values_of items) id) (noted : lookup (nat_eq id) slots ≡ Some slot)
    (unique : IsDistinct same_slot (keys_of new_items)) (with_item : (q : Slot)
    → lookup (same_slot q) new_items ≡ cond (same_slot slot q) (Some (entry_of id range)) (lookup (same_slot q) items))
  where
    abbrev at : Slot → Option Entry
    at s = lookup (same_slot s) items

    abbrev new_at : Slot → Option Entry
    new_at s = lookup (same_slot s) new_items

    there : at slot ≡ Some (entry_of id is.range)
    there = noted_there id slot are is noted

    sets : SetsKey at new_at slot (Some (entry_of id range))
    sets = sets_slot at new_at slot (Some (entry_of id range)) with_item

    pub are_changed : slot.home ≡ home_of range → FitsNames range → AreGrid new_items counts slots tallest widest
    are_changed home_is fits = record {
      unique = unique;
      grid = grid_changed at new_at slot id is.range range there sets (λ h. or_none (lookup (same_home h) counts))
          (λ i. lookup (nat_eq i) slots) tallest widest are.grid home_is fits;
    }

    pub entries_changed : ChangesRange (values_of items) (values_of new_items) id range
    entries_changed entry = (
      λ now. elim (changed.0 ((stands_somewhere new_items unique entry).0 now)) [
        | inl before ↦ inl (before.0, (stands_somewhere items are.unique entry).1 before.1)
        | inr same ↦ inr same
      ],
      λ either. (stands_somewhere new_items unique entry).1 (changed.1 (elim either [
        | inl before ↦ inl (before.0, (stands_somewhere items are.unique entry).0 before.1)
        | inr same ↦ inr same
      ])),
    )
      where
        changed : Stands new_at entry ↔ (((entry.id ≢ id) × Stands at entry) ⊎ (entry ≡ entry_of id range))
        changed = stands_changed at new_at slot id is.range range there sets entry (places_of are)
