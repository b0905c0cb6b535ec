use Rattle.std.proofs.Common.{◌≡◌, [], rules}
use Rattle.sheet_refs.specs.Rectangles.{IsAmong}
use Rattle.graph_walk.specs.Gathers.{Gathers}
use Rattle.graph_walk.specs.Walks.{step_in}
use Rattle.graph_walk.proofs.WalkLemmas.{walking_on, walking_done}
use Rattle.graph_walk.proofs.walk.walk.Goals as goal

pub loop-range-preserved : goal.loop-range-preserved
loop-range-preserved g c =
    let gathered : Gathers c.loop-range.set c.gather-in-Some.new.set c.pop.new.self.items
    c.gather-in-Some.new.waiting.items (IsAmong c.next_ranges.new.out.items) =
    rw (← c.deref.ensures.value) c.in_ok-gather-2.ensures in
    walking_on (step_in c.args.direction (g.G.Graph.pairs c.args.graph.now)) c.args.starts.now c.loop-range.set
    c.gather-in-Some.new.set c.loop-range.waiting.items c.pop.new.self.items c.gather-in-Some.new.waiting.items
    c.clear.new.self.items c.next_ranges.new.out.items c.in-Some.range
    c.loop-range.invariant c.in-Some.ensures.items c.in_ok-next_ranges.ensures c.clear.ensures.items gathered

pub returns : goal.returns
returns g c =
    let empty : c.loop-range.waiting.items ≡ [] = search rules in
    walking_done (step_in c.args.direction (g.G.Graph.pairs c.args.graph.now)) c.args.starts.now c.loop-range.set
    c.loop-range.waiting.items c.loop-range.invariant empty
