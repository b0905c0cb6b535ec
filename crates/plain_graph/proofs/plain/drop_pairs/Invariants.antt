use Rattle.std.proofs.Common.{◌≡◌, ◌≤◌, ◌-◌, vec_len, vec_capacity}
use Rattle.plain_graph.proofs.PairLemmas.{Dropped}
use Rattle.plain_graph.proofs.plain.drop_pairs.Given as goal

abbrev pub invariant-loop-place : goal.invariant-loop-place
invariant-loop-place l =
    (vec_len l.pairs ≤ vec_len l.initial.pairs)
    × (vec_capacity l.pairs ≡ vec_capacity l.initial.pairs)
    × Dropped l.cell l.initial.pairs.items l.pairs.items l.place

abbrev pub decreases-loop-place : goal.decreases-loop-place
decreases-loop-place l = vec_len l.pairs - l.place
