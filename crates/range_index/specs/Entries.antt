-- What an index holds: ids, each with one range.
use Rattle.std.specs.Prelude.{◌≡◌, ◌≢◌, ◌↔◌, ◌⊎◌, ℕ, ◌<◌, List, ◌++◌, length, slice_index_or, Contains, AllPairs}
use Rattle.sheet_refs.specs.Cells.{Corners}
use Rattle.sheet_refs.specs.Rectangles.{Overlap}

-- an id with its range
pub record Entry : Type 0 where
  pub id : ℕ
  pub range : Corners

abbrev pub entry_of : ℕ → Corners → Entry
entry_of id range = record { id = id; range = range }

-- no id stands twice, so that each has one range
abbrev pub HaveOneRange : List Entry → Type 0
HaveOneRange entries = AllPairs (λ a b. a.id ≢ b.id) entries

-- an id is not there
abbrev pub HasNoId : List Entry → ℕ → Type 0
HasNoId entries id = (entry : Entry) → Contains entries entry → entry.id ≢ id

-- an id is there
pub record HasId (entries : List Entry) (id : ℕ) : Type 0 where
  pub range : Corners
  pub listed : Contains entries (entry_of id range)

-- an id stands at a place
pub record IsPlaceOf (entries : List Entry) (id place : ℕ) : Type 0 where
  pub within : place < length entries
  pub here : (d : Entry) → (slice_index_or entries place d).id ≡ id

-- the same entries
abbrev pub SameEntries : List Entry → List Entry → Type 0
SameEntries old new = (entry : Entry) → Contains new entry ↔ Contains old entry

-- one entry has come, and no other has changed
abbrev pub Inserts : List Entry → List Entry → ℕ → Corners → Type 0
Inserts old new id range = (entry : Entry) → Contains new entry ↔ (Contains old entry ⊎ (entry ≡ entry_of id range))

-- the entry of one id has gone, and no other has changed
abbrev pub Removes : List Entry → List Entry → ℕ → Type 0
Removes old new id = (entry : Entry) → Contains new entry ↔ ((entry.id ≢ id) × Contains old entry)

-- the entry of one id has another range, and no other has changed
abbrev pub ChangesRange : List Entry → List Entry → ℕ → Corners → Type 0
ChangesRange old new id range = (entry : Entry) → Contains new entry ↔ (((entry.id ≢ id) × Contains old entry) ⊎ (entry ≡ entry_of id range))

-- an id whose range overlaps a query
pub record IsOverlapping (entries : List Entry) (query : Corners) (id : ℕ) : Type 0 where
  pub range : Corners
  pub listed : Contains entries (entry_of id range)
  pub overlaps : Overlap range query

-- a list has gained exactly the ids whose ranges overlap a query, each once
pub record AddsOverlapping (entries : List Entry) (query : Corners) (old new : List ℕ) : Type 0 where
  pub added : List ℕ
  pub whole : new ≡ old ++ added
  pub once : AllPairs (λ a b. a ≢ b) added
  pub exact : (id : ℕ) → Contains added id ↔ IsOverlapping entries query id

-- a list has kept what it held
pub record KeepsIds (old new : List ℕ) : Type 0 where
  pub added : List ℕ
  pub whole : new ≡ old ++ added
