use Rattle.tree_index.proofs.WayLemmas.{rearranged_on}
use Rattle.tree_index.proofs.nodes.Tree.mend.Goals as goal

pub returns-then-not-mend_one : goal.returns-then-not-mend_one
returns-then-not-mend_one c = rearranged_on c.args.self.now c.loop.self c.mend_one.new.self c.loop.invariant c.mend_one.ensures

pub loop-preserved : goal.loop-preserved
loop-preserved c = rearranged_on c.args.self.now c.loop.self c.mend_one.new.self c.loop.invariant c.mend_one.ensures
