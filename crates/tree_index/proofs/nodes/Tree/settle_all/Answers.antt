use Rattle.std.proofs.Common.{arith}
use Rattle.tree_index.specs.Indexes.{entries_in}
use Rattle.tree_index.proofs.WayLemmas.{same_on}
use Rattle.tree_index.proofs.nodes.Tree.settle_all.Goals as goal

pub returns-then-not-settle_last-clause-same : goal.returns-then-not-settle_last-clause-same
returns-then-not-settle_last-clause-same c =
    same_on (entries_in c.args.self.now) (entries_in c.loop.self) (entries_in c.settle_last.new.self) c.loop.invariant.1
    c.settle_last.ensures.same

pub loop-preserved : goal.loop-preserved
loop-preserved c = (
  c.settle_last.ensures.tree,
  same_on (entries_in c.args.self.now) (entries_in c.loop.self) (entries_in c.settle_last.new.self) c.loop.invariant.1 c.settle_last.ensures.same,
  omega (arith, c.loop.invariant.2, c.settle_last.ensures.room),
)
