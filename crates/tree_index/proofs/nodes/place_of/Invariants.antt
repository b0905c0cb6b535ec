use Rattle.std.proofs.Common.{◌≢◌, ◌<◌, ℕ, slice_index_or, length}
use Rattle.range_index.specs.Entries.{Entry}
use Rattle.tree_index.proofs.nodes.place_of.Given as goal

abbrev pub invariant-loop-place : goal.invariant-loop-place
invariant-loop-place l = (k : ℕ) (d : Entry) → k < l.place → k < length l.children → (slice_index_or l.children k d).id ≢ l.id
