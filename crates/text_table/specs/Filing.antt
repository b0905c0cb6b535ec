-- Where the texts of a table are filed: each in the bucket of its hash, and in the map beside the buckets where that
-- bucket is full.
use Rattle.std.specs.Prelude.{◌≡◌, ℕ, ◌<◌, ◌≤◌, ◌/◌, ◌%◌, ◌^◌, ◌⊎◌, List, [], length, Option, Some, slice_get}
use Rattle.std.specs.Option.{unwrap_or}
use Rattle.std.specs.Hash.FoldHasher.{initial, write, finish}
use Rattle.text_table.specs.declared.filing.Slot.{Slot}
use Rattle.text_table.specs.Tables.{AreDistinct}

-- the hash of a text, the same in each run
unfoldable pub hash_of : List ℕ → ℕ
hash_of text = finish (write initial text)

-- the half of a hash that stands beside a place
abbrev pub tag_of : ℕ → ℕ
tag_of hash = hash / 2 ^ 32

-- what stands in the bucket of a hash
abbrev pub slots_of : List (List Slot) → ℕ → List Slot
slots_of buckets hash = unwrap_or (slice_get buckets (hash % length buckets)) []

-- a bucket has a place with a tag
abbrev pub HasSlot : List Slot → ℕ → ℕ → Type 0
HasSlot slots tag place = (i : ℕ) × (slice_get slots i ≡ Some (record { tag = tag; place = place }))

-- none of the places with a tag in a bucket has the text
abbrev pub HasNone : List Slot → ℕ → List (List ℕ) → List ℕ → Type 0
HasNone slots tag texts text = (place : ℕ) → HasSlot slots tag place → slice_get texts place ≡ Some text → ⊥

-- a place is in the bucket of its text, or beside the buckets where that one is full
abbrev pub IsFiled : List (List Slot) → (List ℕ → Option ℕ) → List ℕ → ℕ → Type 0
IsFiled buckets beside text place =
    HasSlot (slots_of buckets (hash_of text)) (tag_of (hash_of text)) place
    ⊎ ((8 ≤ length (slots_of buckets (hash_of text))) × (beside text ≡ Some place))

-- each text of a table is filed, and what stands beside the buckets is of the table
pub record IsIndexOf (buckets : List (List Slot)) (beside : List ℕ → Option ℕ) (texts : List (List ℕ)) : Type 0 where
  pub filed : (place : ℕ) (text : List ℕ) → slice_get texts place ≡ Some text → IsFiled buckets beside text place
  pub known : (place : ℕ) (text : List ℕ) → beside text ≡ Some place → slice_get texts place ≡ Some text

-- what a table keeps
pub record IsStored (buckets : List (List Slot)) (beside : List ℕ → Option ℕ) (texts : List (List ℕ)) : Type 0 where
  pub index : IsIndexOf buckets beside texts
  pub distinct : AreDistinct texts
  pub few : length texts < 2 ^ 32
