-- What the three tables of an index say, as functions of their keys.
use Rattle.std.proofs.Common.{◌≡◌, ◌≢◌, ◌↔◌, ◌⊎◌, inl, inr, ℕ, ◌+◌, ◌-◌, ◌<◌, ◌≤◌, Bool, true, false, true≢false, ◌||◌}
use Rattle.std.proofs.Common.{cond, List, [], ◌∷◌, length, get_or, map, Option, Some, None, Result, Ok, Err, refl, sym}
use Rattle.std.proofs.Common.{◌∙◌, ap, subst, arith, max, nat_eq}
use Rattle.std.specs.Option.{IsSome, is_some}
use Rattle.std.specs.Result.{IsOk, OnOk}
use Rattle.std.specs.List.{IsDistinct, list_any}
use Rattle.std.specs.Map.{lookup, keys_of, values_of}
use Rattle.std.proofs.lemmas.Bool.Decides.{nat_tests}
use Rattle.std.proofs.lemmas.List.{get_or-map, length-map}
use Rattle.std.proofs.lemmas.List.Elements.{Contains-get_or}
use Rattle.std.proofs.lemmas.Map.Entries.{length-keys_of, length-values_of}
use Rattle.std.proofs.lemmas.Map.Keys.{apart_from_distinct}
use Rattle.std.proofs.lemmas.Map.Steps.{le-length_from_below}
use Rattle.std.proofs.lemmas.Map.Views.{lookup-from_Contains}
use Rattle.range_index.specs.declared.tiles.Home.{Home}
use Rattle.range_index.specs.declared.tiles.Slot.{Slot}
use Rattle.sheet_refs.specs.Cells.{Corners}
use Rattle.range_index.specs.declared.tables.Tables.{Tables}
use Rattle.range_index.specs.Entries.{Entry, entry_of, HasId, HasNoId, HaveOneRange, Inserts, Removes, SameEntries}
use Rattle.range_index.specs.Grids.{AreGrid, FitsNames, HoldGrid, IsGrid, IsReachedKind, count_at, entries_in, entry_at}
use Rattle.range_index.specs.Grids.{home_of, or_none, slot_of, same_home, same_slot, stands_at}
use Rattle.range_index.specs.Changes.{HaveOneKey, SetsKey}
use Rattle.range_index.proofs.ChangeLemmas.{Stands, TakesOut, free_place, grid_with, grid_without, stands_with, stands_without}
use Rattle.range_index.proofs.GridLemmas.{places_of}
use Rattle.range_index.proofs.SlotLemmas.{stands_somewhere, slots_equal, slot_same, slot_self, home_same, home_self}

-- what a call ensures where it succeeds, and it does
pub on_ok : {T E P : Type 0} (r : Result T E) → IsOk r → OnOk r P → P
on_ok (Ok x) ok p = p
on_ok (Err e) ok p = absurd (true≢false (sym ok))

-- one look-up has changed
pub sets_by : {K X : Type 0} (eq : K → K → Bool) → ((a b : K) → eq a b ≡ true → a ≡ b) → ((a : K) → eq a a ≡ true)
    → (old new : K → Option X) (key : K) (value : Option X) → ((q : K) → new q ≡ cond (eq key q) value (old q))
    → SetsKey old new key value
sets_by {K} {X} eq same self old new key value step = record {
  here = step key ∙ ap (λ v. cond v value (old key)) (self key);
  others = λ q other. step q ∙ ap (λ v. cond v value (old q)) (is_false q other (eq key q) refl);
}
  where
    is_false : (q : K) → q ≢ key → (v : Bool) → eq key q ≡ v → eq key q ≡ false
    is_false q other true e = absurd (other (sym (same key q e)))
    is_false q other false e = e

pub sets_slot : {X : Type 0} (old new : Slot → Option X) (key : Slot) (value : Option X)
    → ((q : Slot) → new q ≡ cond (same_slot key q) value (old q)) → SetsKey old new key value
sets_slot = sets_by same_slot slot_same slot_self

sets_home : {X : Type 0} (old new : Home → Option X) (key : Home) (value : Option X)
    → ((q : Home) → new q ≡ cond (same_home key q) value (old q)) → SetsKey old new key value
sets_home = sets_by same_home home_same home_self

pub sets_count : (old new : Home → Option ℕ) (key : Home) (value : Option ℕ)
    → ((q : Home) → new q ≡ cond (same_home key q) value (old q))
    → SetsKey (λ h. or_none (old h)) (λ h. or_none (new h)) key (or_none value)
sets_count old new key value step =
    let sets = sets_home old new key value step in record { here = ap or_none sets.here; others = λ h other. ap or_none (sets.others h other) }

number_is : (a b : ℕ) → nat_eq a b ≡ true → a ≡ b
number_is a b e = grind (arith, nat_tests, e)

number_self : (a : ℕ) → nat_eq a a ≡ true
number_self a = grind (arith, nat_tests)

pub sets_id : {X : Type 0} (old new : ℕ → Option X) (key : ℕ) (value : Option X)
    → ((q : ℕ) → new q ≡ cond (nat_eq key q) value (old q)) → SetsKey old new key value
sets_id = sets_by nat_eq number_is number_self

-- a home has at most as many entries as there are in all

or_true : (v : Bool) → (v || true) ≡ true
or_true true = refl
or_true false = refl

place_next : (home : Home) (place : ℕ) (e : Slot × Entry) (items : List (Slot × Entry)) (v : Bool)
    → same_slot (slot_of home place) e.0 ≡ v
    → IsSome (cond v (Some e.1) (lookup (same_slot (slot_of home place)) items))
    → (IsSome (lookup (same_slot (slot_of home place)) items)
    → list_any (nat_eq place) (map (λ (e : Slot × Entry). e.0.place) items) ≡ true)
    → (nat_eq place e.0.place || list_any (nat_eq place) (map (λ (e : Slot × Entry). e.0.place) items)) ≡ true
place_next home place e items true is some rest =
    let same : nat_eq place e.0.place ≡ true =
    subst (λ (s : Slot). nat_eq place s.place ≡ true) (slot_same (slot_of home place) e.0 is) (number_self place) in
    rw same refl
place_next home place e items false is some rest = rw (rest some) (or_true (nat_eq place e.0.place))

place_listed : (home : Home) (place : ℕ) (items : List (Slot × Entry))
    → IsSome (lookup (same_slot (slot_of home place)) items)
    → list_any (nat_eq place) (map (λ (e : Slot × Entry). e.0.place) items) ≡ true
place_listed home place [] some = absurd (true≢false (sym some))
place_listed home place (e ∷ items) some = place_next home place e items (same_slot (slot_of home place) e.0) refl some (place_listed home place items)

pub count_fits : {items : List (Slot × Entry)} {counts : List (Home × ℕ)} {slots : List (ℕ × Slot)} {tallest widest : ℕ}
    (home : Home) → AreGrid items counts slots tallest widest → or_none (lookup (same_home home) counts) ≤ length items
count_fits {items} {counts} {slots} {tallest} {widest} home are =
    omega (
      arith,
      le-length_from_below (map (λ (e : Slot × Entry). e.0.place) items)
          (or_none (lookup (same_home home) counts)) (λ place below. place_listed home place items
          (are.grid.full home place below)),
      length-map items (λ (e : Slot × Entry). e.0.place),
    )

-- no id stands twice
pub one_range : {items : List (Slot × Entry)} {counts : List (Home × ℕ)} {slots : List (ℕ × Slot)} {tallest widest : ℕ}
    → AreGrid items counts slots tallest widest → HaveOneRange (values_of items)
one_range {items} {counts} {slots} {tallest} {widest} are i j d before within same =
    let in_items : j < length items = omega (arith, within, length-values_of items) in
    let places = places_of are (key i) (key j) (item i) (item j) (stands i (omega (arith, before, in_items))) (stands j in_items) in
    true≢false (sym (slot_self (key j)) ∙ ap (λ (s : Slot). same_slot s (key j)) (sym (places (same_ids in_items))) ∙ apart in_items)
  where
    none : Slot
    none = slot_of (record { height = 0; width = 0; row = 0; col = 0 }) 0

    at : ℕ → Slot × Entry
    at k = get_or items k (none, d)

    key : ℕ → Slot
    key k = (at k).0

    item : ℕ → Entry
    item k = (at k).1

    stands : (k : ℕ) → k < length items → lookup (same_slot (key k)) items ≡ Some (item k)
    stands k inside = lookup-from_Contains slots_equal (key k) (item k) items are.unique (Contains-get_or items k (none, d) inside)

    value : (k : ℕ) → k < length items → get_or (values_of items) k d ≡ item k
    value k inside = get_or-map (λ (e : Slot × Entry). e.1) items k (none, d) d inside

    same_ids : j < length items → (item i).id ≡ (item j).id
    same_ids inside = ap (λ (e : Entry). e.id) (sym (value i (omega (arith, before, inside)))) ∙ same ∙ ap (λ (e : Entry). e.id) (value j inside)

    apart : j < length items → same_slot (key i) (key j) ≡ false
    apart inside =
        let distinct = apart_from_distinct same_slot (keys_of items) i j none are.unique before (omega (arith, inside, length-keys_of items)) in
        ap (λ (s : Slot). same_slot s (key j)) (sym (get_or-map (λ (e : Slot × Entry). e.0) items i (none, d) none (omega (arith, before, inside))))
        ∙ ap (λ (s : Slot). same_slot (get_or (keys_of items) i none) s) (sym (get_or-map (λ (e : Slot × Entry). e.0) items j (none, d) none inside))
        ∙ distinct

-- tables whose maps have what they had, in any order

pub grid_same : (at new_at : Slot → Option Entry) (count new_count : Home → ℕ) (stands new_stands : ℕ
    → Option Slot) (tallest widest : ℕ) → IsGrid at count stands tallest widest → ((s : Slot) → new_at s ≡ at s)
    → ((h : Home) → new_count h ≡ count h) → ((i : ℕ) → new_stands i ≡ stands i)
    → IsGrid new_at new_count new_stands tallest widest
grid_same at new_at count new_count stands new_stands tallest widest grid items counts slots = record {
  full = λ h p below. subst (λ (o : Option Entry). IsSome o) (sym (items (slot_of h p))) (grid.full h p (omega (arith, below, counts h)));
  counted = λ s e is. omega (arith, grid.counted s e (sym (items s) ∙ is), counts s.home);
  at_home = λ s e is. grid.at_home s e (sym (items s) ∙ is);
  fits = λ s e is. grid.fits s e (sym (items s) ∙ is);
  reached = λ s e is. grid.reached s e (sym (items s) ∙ is);
  noted = λ s e is. slots e.id ∙ grid.noted s e (sym (items s) ∙ is);
}

pub are_same : {items : List (Slot × Entry)} {counts : List (Home × ℕ)} {slots : List (ℕ × Slot)} {tallest widest : ℕ}
    (new_items : List (Slot × Entry)) (new_counts : List (Home × ℕ)) (new_slots : List (ℕ × Slot))
    → AreGrid items counts slots tallest widest → IsDistinct same_slot (keys_of new_items)
    → ((s : Slot) → lookup (same_slot s) new_items ≡ lookup (same_slot s) items)
    → ((h : Home) → lookup (same_home h) new_counts ≡ lookup (same_home h) counts)
    → ((i : ℕ) → lookup (nat_eq i) new_slots ≡ lookup (nat_eq i) slots)
    → AreGrid new_items new_counts new_slots tallest widest
are_same {items} {counts} {slots} {tallest} {widest} new_items new_counts new_slots are unique same_items same_counts same_slots = record {
  unique = unique;
  grid =
      grid_same (λ s. lookup (same_slot s) items) (λ s. lookup (same_slot s) new_items)
      (λ h. or_none (lookup (same_home h) counts)) (λ h. or_none (lookup (same_home h) new_counts))
      (λ i. lookup (nat_eq i) slots) (λ i. lookup (nat_eq i) new_slots) tallest widest
      are.grid same_items (λ h. ap or_none (same_counts h)) same_slots;
}

pub entries_same : (items new_items : List (Slot × Entry)) → IsDistinct same_slot (keys_of items)
    → IsDistinct same_slot (keys_of new_items)
    → ((s : Slot) → lookup (same_slot s) new_items ≡ lookup (same_slot s) items)
    → SameEntries (values_of items) (values_of new_items)
entries_same items new_items unique new_unique same entry = (
  λ there. let at = (stands_somewhere new_items new_unique entry).0 there in (stands_somewhere items unique entry).1 (at.0, sym (same at.0) ∙ at.1),
  λ there. let at = (stands_somewhere items unique entry).0 there in (stands_somewhere new_items new_unique entry).1 (at.0, same at.0 ∙ at.1),
)

-- a map that had the same at each key before
pub sets_before : {K V : Type 0} (first old new : K → V) (key : K) (value : V) → ((k : K) → old k ≡ first k)
    → SetsKey old new key value → SetsKey first new key value
sets_before first old new key value same sets = record { here = sets.here; others = λ k other. sets.others k other ∙ same k }

-- an entry more

pub added : {items : List (Slot × Entry)} {counts : List (Home × ℕ)} {slots : List (ℕ × Slot)} {tallest widest : ℕ}
    (new_items : List (Slot × Entry)) (new_counts : List (Home × ℕ)) (new_slots : List (ℕ × Slot))
    (new_tallest new_widest id : ℕ) (range : Corners) (home : Home) (place : ℕ)
    → AreGrid items counts slots tallest widest → home ≡ home_of range → FitsNames range
    → place ≡ or_none (lookup (same_home home) counts) → HasNoId (values_of items) id
    → IsDistinct same_slot (keys_of new_items)
    → ((q : Slot) → lookup (same_slot q) new_items ≡ cond (same_slot (slot_of home place) q) (Some (entry_of id range))
    (lookup (same_slot q) items))
    → ((q : Home) → lookup (same_home q) new_counts ≡ cond (same_home home q) (Some (place + 1))
    (lookup (same_home q) counts))
    → ((q : ℕ) → lookup (nat_eq q) new_slots ≡ cond (nat_eq id q) (Some (slot_of home place)) (lookup (nat_eq q) slots))
    → new_tallest ≡ max tallest home.height → new_widest ≡ max widest home.width
    → AreGrid new_items new_counts new_slots new_tallest new_widest
added {items} {counts} {slots} {tallest} {widest} new_items new_counts new_slots new_tallest new_widest id range home
    place are home_is fits place_is absent unique with_item with_count with_slot high wide = record {
      unique = unique;
      grid =
          grid_with at new_at count new_count stands new_stands tallest widest new_tallest new_widest id range are.grid fits
          (λ s e is. absent e ((stands_somewhere items are.unique e).1 (s, is)))
          (subst (λ (s : Slot). SetsKey at new_at s (Some (entry_of id range))) slot_same_as
          (sets_slot at new_at (slot_of home place) (Some (entry_of id range)) with_item))
          (subst (λ n. SetsKey count new_count (home_of range) (n + 1)) place_same
          (subst (λ (h : Home). SetsKey count new_count h (place + 1)) home_is
          (sets_count (λ h. lookup (same_home h) counts) (λ h. lookup (same_home h) new_counts) home (Some (place + 1))
          with_count)))
          (subst (λ (s : Slot). SetsKey stands new_stands id (Some s)) slot_same_as (sets_id stands new_stands id (Some (slot_of home place)) with_slot))
          (omega (arith, high)) (omega (arith, wide))
          (subst (λ (h : Home). IsReachedKind new_tallest new_widest h) home_is (record { high = omega (arith, high); wide = omega (arith, wide) }));
    }
  where
    at : Slot → Option Entry
    at s = lookup (same_slot s) items

    new_at : Slot → Option Entry
    new_at s = lookup (same_slot s) new_items

    count : Home → ℕ
    count h = or_none (lookup (same_home h) counts)

    new_count : Home → ℕ
    new_count h = or_none (lookup (same_home h) new_counts)

    stands : ℕ → Option Slot
    stands i = lookup (nat_eq i) slots

    new_stands : ℕ → Option Slot
    new_stands i = lookup (nat_eq i) new_slots

    place_same : place ≡ count (home_of range)
    place_same = place_is ∙ ap count home_is

    slot_same_as : slot_of home place ≡ slot_of (home_of range) (count (home_of range))
    slot_same_as = ap (λ (h : Home). slot_of h place) home_is ∙ ap (λ n. slot_of (home_of range) n) place_same

pub inserted : {items : List (Slot × Entry)} {counts : List (Home × ℕ)} {slots : List (ℕ × Slot)} {tallest widest : ℕ}
    (new_items : List (Slot × Entry)) (id : ℕ) (range : Corners) (home : Home) (place : ℕ)
    → AreGrid items counts slots tallest widest → place ≡ or_none (lookup (same_home home) counts)
    → IsDistinct same_slot (keys_of new_items)
    → ((q : Slot) → lookup (same_slot q) new_items ≡ cond (same_slot (slot_of home place) q) (Some (entry_of id range))
    (lookup (same_slot q) items)) → Inserts (values_of items) (values_of new_items) id range
inserted {items} {counts} {slots} {tallest} {widest} new_items id range home place are place_is unique with_item entry = (
  λ there. elim (with_entry.0 ((stands_somewhere new_items unique entry).0 there)) [
    | inl before ↦ inl ((stands_somewhere items are.unique entry).1 before)
    | inr same ↦ inr same
  ],
  λ either. (stands_somewhere new_items unique entry).1 (with_entry.1 (elim either [
    | inl before ↦ inl ((stands_somewhere items are.unique entry).0 before)
    | inr same ↦ inr same
  ])),
)
  where
    at : Slot → Option Entry
    at s = lookup (same_slot s) items

    new_at : Slot → Option Entry
    new_at s = lookup (same_slot s) new_items

    count : Home → ℕ
    count h = or_none (lookup (same_home h) counts)

    free : at (slot_of home place) ≡ None
    free = ap (λ n. at (slot_of home n)) place_is ∙ free_place at count (λ i. lookup (nat_eq i) slots) tallest widest home are.grid

    with_entry : Stands new_at entry ↔ (Stands at entry ⊎ (entry ≡ entry_of id range))
    with_entry =
        stands_with at new_at (slot_of home place) (entry_of id range) entry free
        (sets_slot at new_at (slot_of home place) (Some (entry_of id range)) with_item)

-- an entry less

-- what stands where an id that is there is noted
pub noted_there : {items : List (Slot × Entry)} {counts : List (Home × ℕ)} {slots : List (ℕ × Slot)}
    {tallest widest : ℕ} (id : ℕ) (slot : Slot) → AreGrid items counts slots tallest widest
    → (is : HasId (values_of items) id) → lookup (nat_eq id) slots ≡ Some slot
    → lookup (same_slot slot) items ≡ Some (entry_of id is.range)
noted_there {items} {counts} {slots} {tallest} {widest} id slot are is noted =
    let (there, here) = (stands_somewhere items are.unique (entry_of id is.range)).0 is.listed in
    let same : there ≡ slot = (let both : Some there ≡ Some slot = sym (are.grid.noted there (entry_of id is.range) here) ∙ noted in cc) in
    subst (λ (s : Slot). lookup (same_slot s) items ≡ Some (entry_of id is.range)) same here

-- it is noted
pub is_noted : {items : List (Slot × Entry)} {counts : List (Home × ℕ)} {slots : List (ℕ × Slot)} {tallest widest : ℕ}
    (id : ℕ) → AreGrid items counts slots tallest widest → HasId (values_of items) id → lookup (nat_eq id) slots ≡ None
    → ⊥
is_noted {items} {counts} {slots} {tallest} {widest} id are is none =
    let (there, here) = (stands_somewhere items are.unique (entry_of id is.range)).0 is.listed in
    let both : None ≡ Some there = sym none ∙ are.grid.noted there (entry_of id is.range) here in cc

-- something stands at the last place of a home that has a place
pub last_there : (at : Slot → Option Entry) (count : Home → ℕ) (stands : ℕ → Option Slot) (tallest widest : ℕ)
    (home : Home) → IsGrid at count stands tallest widest → 0 < count home → at (slot_of home (count home - 1)) ≡ None
    → ⊥
last_there at count stands tallest widest home grid some none =
    true≢false (sym (grid.full home (count home - 1) (omega (arith, some))) ∙ ap (λ (o : Option Entry). is_some o) none)

pub grid_after : (old new : Tables) (slot last : Slot) (out moved : Entry) → HoldGrid old → HaveOneKey new
    → new.tallest ≡ old.tallest → new.widest ≡ old.widest
    → TakesOut (entry_at old) (entry_at new) (count_at old) (count_at new) (stands_at old) (stands_at new) slot last out
    moved → HoldGrid new
grid_after old new slot last out moved are one_key tallest widest takes = record {
  unique = one_key;
  grid =
      subst (λ h. IsGrid (entry_at new) (count_at new) (stands_at new) h new.widest) (sym tallest)
      (subst (λ w. IsGrid (entry_at new) (count_at new) (stands_at new) old.tallest w) (sym widest)
      (grid_without (entry_at old) (entry_at new) (count_at old) (count_at new) (stands_at old) (stands_at new)
      old.tallest old.widest slot last out moved are.grid takes));
}

pub removed_after : (old new : Tables) (slot last : Slot) (out moved : Entry) → HoldGrid old → HaveOneKey new
    → TakesOut (entry_at old) (entry_at new) (count_at old) (count_at new) (stands_at old) (stands_at new) slot last out
    moved → Removes (entries_in old) (entries_in new) out.id
removed_after old new slot last out moved are one_key takes entry = (
  λ there. let both = without.0 ((stands_somewhere new.items.entries one_key entry).0 there) in
      (both.0, (stands_somewhere old.items.entries are.unique entry).1 both.1),
  λ both. (stands_somewhere new.items.entries one_key entry).1 (without.1 (both.0, (stands_somewhere old.items.entries are.unique entry).0 both.1)),
)
  where
    without : Stands (entry_at new) entry ↔ ((entry.id ≢ out.id) × Stands (entry_at old) entry)
    without =
        stands_without (entry_at old) (entry_at new) (count_at old) (count_at new) (stands_at old) (stands_at new) slot last out moved entry
        (places_of are) takes
