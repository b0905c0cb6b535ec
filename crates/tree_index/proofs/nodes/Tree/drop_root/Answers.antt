use Rattle.std.proofs.Common.{List, [], refl, subst, arith}
use Rattle.std.specs.List.{Contains}
use Rattle.range_index.specs.Entries.{Entry}
use Rattle.tree_index.specs.Indexes.{node_at}
use Rattle.tree_index.proofs.StepLemmas.{gone}
use Rattle.tree_index.proofs.StandLemmas.{no_leaf, none_no_leaf, empty_no_leaf}
use Rattle.tree_index.proofs.WayLemmas.{rearranged, reshaped}
use Rattle.tree_index.proofs.nodes.Tree.drop_root.Goals as goal

pub returns : goal.returns
returns c =
    let tree = c.requires.tree in
    let old = c.args.self.now in
    let new = record c.args.self.now { nodes = c.try_remove.new.self } in
    let updates = c.try_remove.ensures.updates in
    rearranged c.args.self.now (record c.args.self.now { nodes = c.try_remove.new.self }) (reshaped tree
    (gone (node_at old) (node_at (record c.args.self.now { nodes = c.try_remove.new.self })) old.root old.root
    tree.shape c.requires.none (record { here = updates.changed; others = updates.others }))
    (no_leaf (node_at old) (node_at (record c.args.self.now { nodes = c.try_remove.new.self })) old.late.items old.root updates.others
    (empty_no_leaf (node_at old) old.root (λ node there e listed.
    let none : Contains [] e = subst (λ (l : List Entry). Contains l e) (c.requires.none node there) listed in
    omega (arith, none.1)))
    (none_no_leaf (node_at (record c.args.self.now { nodes = c.try_remove.new.self })) old.root updates.changed))) refl refl
