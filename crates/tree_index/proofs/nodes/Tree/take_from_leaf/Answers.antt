use Rattle.std.proofs.Common.{◌≡◌, List, Option, Some, None, refl, ◌∙◌, ap, subst, rules}
use Rattle.std.specs.Prelude.{swap_remove}
use Rattle.std.specs.List.{Contains}
use Rattle.range_index.specs.Entries.{Entry, entry_of, HaveOneRange, IsPlaceOf, Removes}
use Rattle.tree_index.specs.Trees.{Node}
use Rattle.tree_index.specs.Indexes.{node_at}
use Rattle.tree_index.specs.Changes.{SetsKey, SetsChildren, child_in, with_children}
use Rattle.tree_index.proofs.ChildLemmas.{found_at, removes_place, some_of}
use Rattle.tree_index.proofs.NoteLemmas.{sets_note, removes_noted, note_in}
use Rattle.tree_index.proofs.ShapeLemmas.{one_node, no_node, listed_in, same_level}
use Rattle.tree_index.proofs.TreeLemmas.{stands_in, leaf_alone, leaf_not_late, same_without, tree_loses}
use Rattle.tree_index.proofs.nodes.Tree.take_from_leaf.Goals as goal

pub returns-in_default-clause-removed : goal.returns-in_default-clause-removed
returns-in_default-clause-removed c =
    let stands = stands_in c.requires.tree c.args.id c.requires.there.0 c.args.leaf c.requires.there.1 in
    let none : node_at c.args.self.now c.args.leaf ≡ None = search rules in
    absurd (no_node (node_at c.args.self.now c.args.leaf) stands.node none stands.there)

pub returns-in_default-place_of-clause-removed : goal.returns-in_default-place_of-clause-removed
returns-in_default-place_of-clause-removed c =
    let stands = stands_in c.requires.tree c.args.id c.requires.there.0 c.args.leaf c.requires.there.1 in
    let node : Node = c.in-Some.node.now in
    let there : node_at c.args.self.now c.args.leaf ≡ Some node = search rules in
    let children : c.as_slice.result.now ≡ node.children = c.as_slice.ensures.value ∙ ap (λ (n : Node). n.children) c.node.view_is in
    let listed : Contains node.children (entry_of c.args.id c.requires.there.0) =
    listed_in (node_at c.args.self.now c.args.leaf) stands.node node (entry_of c.args.id c.requires.there.0)
    stands.there there stands.listed in
    absurd (c.in_default-place_of.ensures (entry_of c.args.id c.requires.there.0) (rw children listed) refl)

taken : (c : goal.After-remove) → (child : Entry)
    × IsPlaceOf c.in-Some.node.now.children c.args.id c.in-Some-place_of.place
    × (node_at c.args.self.now c.args.leaf ≡ Some c.in-Some.node.now)
    × SetsChildren c.args.self.now c.take_child.new.self c.args.leaf
    (λ (l : List Entry). swap_remove l c.in-Some-place_of.place child)
taken c =
    let node : Node = c.in-Some.node.now in
    let there : node_at c.args.self.now c.args.leaf ≡ Some node = search rules in
    let children : c.as_slice.result.now ≡ node.children = c.as_slice.ensures.value ∙ ap (λ (n : Node). n.children) c.node.view_is in
    let place : IsPlaceOf node.children c.args.id c.in-Some-place_of.place =
    subst (λ (l : List Entry). IsPlaceOf l c.args.id c.in-Some-place_of.place) children c.in-Some-place_of.ensures
    in
    let found = found_at node.children c.in-Some-place_of.place c.args.id place in (
      found.0,
      place,
      there,
      some_of c.take_child.result (λ (e : Entry). SetsChildren c.args.self.now c.take_child.new.self c.args.leaf
          (λ (l : List Entry). swap_remove l c.in-Some-place_of.place e)) found.0
          (c.take_child.ensures.child ∙ ap (λ (o : Option Node). child_in o c.in-Some-place_of.place) there ∙ found.1) c.take_child.ensures.taken,
    )

noted : (c : goal.After-remove) → SetsKey (note_in c.args.self.now.notes.entries) (note_in c.remove.new.self.entries) c.args.id None
noted c =
    let set = (taken c).3.set in
    sets_note (note_in c.args.self.now.notes.entries) (note_in c.remove.new.self.entries) c.args.id None (rw set.notes at c.remove.ensures.updates.0)

pub returns-clause-tree : goal.returns-clause-tree
returns-clause-tree c =
    let tree = c.requires.tree in
    let id = c.args.id in
    let stands = stands_in tree id c.requires.there.0 c.args.leaf c.requires.there.1 in
    let sets = (taken c).3 in
    let node : Node = sets.node in
    let same : c.in-Some.node.now ≡ node = one_node (node_at c.args.self.now c.args.leaf) c.in-Some.node.now node (taken c).2 sets.there in
    let left : List Entry = swap_remove node.children c.in-Some-place_of.place (taken c).0 in
    let removes : Removes node.children left id × HaveOneRange left =
    removes_place node.children left c.in-Some-place_of.place id (taken c).0
    (subst (λ (n : Node). IsPlaceOf n.children id c.in-Some-place_of.place) same (taken c).1)
    (tree.shape.once c.args.leaf node sets.there) refl in
    let lowest : node.level ≡ 0 = same_level (node_at c.args.self.now c.args.leaf) node stands.node sets.there stands.there ∙ stands.lowest in
    rw (sets.set.root, sets.set.late) (tree_loses tree c.remove.new.self.entries c.remove.ensures.unique
    (node_at c.take_child.new.self) c.args.leaf node (with_children node left) sets.there lowest sets.set.nodes refl
    removes.1
    id removes.0 (same_without tree id (leaf_not_late tree id c.requires.there.0 c.args.leaf c.requires.there.1))
    (leaf_alone tree id c.requires.there.0 c.args.leaf c.requires.there.1) (noted c))

pub returns-clause-removed : goal.returns-clause-removed
returns-clause-removed c = removes_noted c.args.self.now.notes.entries c.remove.new.self.entries c.requires.tree.unique
    c.remove.ensures.unique c.args.id (noted c)
