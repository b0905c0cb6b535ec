use Rattle.tree_index.proofs.WayLemmas.{rearranged_on}
use Rattle.tree_index.proofs.nodes.Tree.raise.Goals as goal

pub returns-in-Some : goal.returns-in-Some
returns-in-Some c = rearranged_on c.args.self.now c.grow.new.self c.split.new.self c.grow.ensures.rest c.split.ensures.rest
