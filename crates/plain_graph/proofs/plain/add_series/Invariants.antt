use Rattle.std.proofs.Common.{◌≡◌, ◌+◌, ◌≤◌, vec_len, vec_capacity}
use Rattle.plain_graph.proofs.RunLemmas.{AddsFirst}
use Rattle.plain_graph.proofs.plain.add_series.Given as goal

abbrev pub invariant-loop-index : goal.invariant-loop-index
invariant-loop-index l =
    AddsFirst l.initial.pairs.items l.pairs.items l.run l.series l.index
    × (vec_len l.pairs ≡ vec_len l.initial.pairs + l.index)
    × (vec_capacity l.initial.pairs ≤ vec_capacity l.pairs)
