use Rattle.tree_index.proofs.nodes.Tree.place_after_split.Goals as goal

pub returns-clause-admits : goal.returns-clause-admits
returns-clause-admits c = c.split.ensures.above.admits c.args.range c.requires.admits
