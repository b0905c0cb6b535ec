use Rattle.std.proofs.Common.{[], subst, sym}
use Rattle.graph_walk.specs.Gathers.{Gathers}
use Rattle.dep_path.specs.Levels.{IsDirect}
use Rattle.dep_path.proofs.LevelLemmas.{next_begins, next_grows}
use Rattle.dep_path.proofs.StepLemmas.{take_all, take_more}
use Rattle.dep_path.proofs.outward.next_level.Goals as goal

pub loop-range-init : goal.loop-range-init
loop-range-init g c = next_begins (g.G.Graph.pairs c.args.graph.now) c.args.seen.now c.new-next.result.items c.new-next.ensures.items

pub loop-range-preserved : goal.loop-range-preserved
loop-range-preserved g c =
    let pairs = g.G.Graph.pairs c.args.graph.now in
    subst (λ l. Gathers c.args.seen.now c.gather.new.set [] c.gather.new.waiting.items (IsDirect pairs l))
    (sym (take_more c.args.level.now c.loop-range.range-index c.range-item.result c.loop-range-test.true c.range-item.is))
    (next_grows pairs _ c.args.seen.now c.loop-range.seen c.gather.new.set c.loop-range.next.items
    c.gather.new.waiting.items c.clear.new.self.items c.direct_dependents.new.out.items c.deref.result.now
    c.range-item.result c.deref.ensures.value c.clear.ensures.items c.in_ok-direct_dependents.ensures.found
    c.loop-range.invariant c.in_ok-gather.ensures)

pub returns : goal.returns
returns g c =
    subst (λ l. Gathers c.args.seen.now c.loop-range.seen [] c.loop-range.next.items (IsDirect (g.G.Graph.pairs c.args.graph.now) l))
    (take_all c.args.level.now c.loop-range.range-index c.loop-range-test.false) c.loop-range.invariant
