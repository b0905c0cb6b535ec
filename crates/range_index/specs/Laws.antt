-- What is true of an index after any list of calls, and of what queries add.
use Rattle.std.specs.Prelude.{◌≡◌, ◌↔◌, ℕ, ◌+◌, ◌≤◌, ◌==◌, if◌then◌else◌, List, [], ◌∷◌, length, Option, Some, None, IsSome, Contains}
use Rattle.std.specs.List.{slice_get}
use Rattle.sheet_refs.specs.Cells.{Corners}
use Rattle.range_index.specs.Entries.{Entry, entry_of, HaveOneRange, HasNoId, Inserts, Removes, ChangesRange, AddsOverlapping, KeepsIds}

-- a call that changes the entry of an id: `insert`, `remove` or `change`
pub data Call : Type 0 where
  insertion : ℕ → Corners → Call
  removal : ℕ → Call
  change : ℕ → Corners → Call

-- the id of a call, and the range that it leaves to that id
abbrev pub id_of : Call → ℕ
id_of (insertion id range) = id
id_of (removal id) = id
id_of (change id range) = id

abbrev pub left_by : Call → Option Corners
left_by (insertion id range) = Some range
left_by (removal id) = None
left_by (change id range) = Some range

-- what a call does to the entries; an id is inserted only where it is not there
abbrev pub Does : Call → List Entry → List Entry → Type 0
Does (insertion id range) old new = HasNoId old id × Inserts old new id range
Does (removal id) old new = Removes old new id
Does (change id range) old new = ChangesRange old new id range

-- the index without entries has these after some calls, of which the last stands first
abbrev pub After : List Call → List Entry → Type 0
After [] entries = entries ≡ []
After (call ∷ calls) entries = (before : List Entry) × After calls before × Does call before entries

-- the range that the last call of an id left to it, if there is such a call and it was no removal
abbrev pub last_range : List Call → ℕ → Option Corners
last_range [] id = None
last_range (call ∷ calls) id = if id_of call == id then left_by call else last_range calls id

-- after every list of calls an entry is there exactly where the last call of its id left it that range
abbrev pub EntriesAreTheLast : Type 0
EntriesAreTheLast =
    (calls : List Call) (entries : List Entry) (id : ℕ) (range : Corners) → After calls entries
    → Contains entries (entry_of id range) ↔ (last_range calls id ≡ Some range)

-- a call may be made after calls that left its id this range, if any: only an id without a range is inserted, and only one with a range is removed or changed
abbrev pub MayBeMade : Call → Option Corners → Type 0
MayBeMade (insertion id range) left = left ≡ None
MayBeMade (removal id) left = IsSome left
MayBeMade (change id range) left = IsSome left

abbrev pub AreLawful : List Call → Type 0
AreLawful [] = Unit {0}
AreLawful (call ∷ calls) = MayBeMade call (last_range calls (id_of call)) × AreLawful calls

-- every list of calls, of which each may be made after those before it, leads to some entries
abbrev pub LawfulCallsHaveEntries : Type 0
LawfulCallsHaveEntries = (calls : List Call) → AreLawful calls → (entries : List Entry) × After calls entries

-- where no id stands twice, each has one range
abbrev pub IdsHaveOneRange : Type 0
IdsHaveOneRange =
    (entries : List Entry) (id : ℕ) (range other : Corners) → HaveOneRange entries
    → Contains entries (entry_of id range) → Contains entries (entry_of id other) → range ≡ other

-- a query adds no more ids than there are entries
abbrev pub FoundAreFew : Type 0
FoundAreFew =
    (entries : List Entry) (query : Corners) (old new : List ℕ) → AddsOverlapping entries query old new → length new ≤ length old + length entries

-- in a list that has kept what it held, each id stands where it stood
abbrev pub KeptIdsStand : Type 0
KeptIdsStand = (old new : List ℕ) (place id : ℕ) → KeepsIds old new → slice_get old place ≡ Some id → slice_get new place ≡ Some id
