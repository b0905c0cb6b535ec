use Rattle.std.proofs.Common.{refl}
use Rattle.tree_index.proofs.nodes.Tree.leaf_again.Goals as goal

pub returns-then-is_open_leaf-clause-leaf : goal.returns-then-is_open_leaf-clause-leaf
returns-then-is_open_leaf-clause-leaf c =
    let leaf = c.if-is_open_leaf.ensures refl in
    record { leaf = leaf.leaf; there = leaf.there; lowest = leaf.lowest; few = leaf.few; admits = c.if-widen.ensures.admits refl }
