use Rattle.std.proofs.Common.{◌+◌, ◌-◌, ◌*◌, ◌≤◌, take, length, vec_len, vec_capacity}
use Rattle.sheet_refs.specs.Cells.{height}
use Rattle.graph_walk.specs.Series.{AddsRun}
use Rattle.plain_graph.proofs.plain.PlainGraphGraph.add_run.Given as goal

abbrev pub invariant-loop-one : goal.invariant-loop-one
invariant-loop-one l =
    AddsRun l.initial.self-inside.pairs.items l.self-inside.pairs.items l.run (take l.one-index l.series)
    × (vec_len l.self-inside.pairs + (length l.series - l.one-index) * height l.run ≤ vec_capacity l.self-inside.pairs)
