use Rattle.std.proofs.Common.{◌≢◌, ◌<◌, ℕ, slice_index_or, length}
use Rattle.range_index.specs.Entries.{Entry}
use Rattle.range_index.proofs.list.entry_place.Given as goal

abbrev pub invariant-loop-place : goal.invariant-loop-place
invariant-loop-place l = (k : ℕ) (d : Entry) → k < l.place → k < length l.slots → (slice_index_or l.slots k d).id ≢ l.id
