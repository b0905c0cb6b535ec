use Rattle.std.proofs.Common.{◌≡◌, ◌+◌, ◌≤◌, ◌++◌, take, length, vec_len, vec_capacity}
use Rattle.plain_graph.proofs.PairLemmas.{pairs_with}
use Rattle.plain_graph.proofs.plain.PlainGraphGraph.replace.Given as goal

abbrev pub invariant-loop-range : goal.invariant-loop-range
invariant-loop-range l =
    (length l.range-items ≤ 255)
    × (l.self-inside.pairs.items ≡ l.initial.self-inside.pairs.items ++ pairs_with l.cell (take l.range-index l.range-items))
    × (vec_len l.self-inside.pairs ≡ vec_len l.initial.self-inside.pairs + l.range-index)
    × (vec_capacity l.initial.self-inside.pairs ≤ vec_capacity l.self-inside.pairs)
    × (vec_len l.initial.self-inside.pairs + 255 ≤ vec_capacity l.initial.self-inside.pairs)
