use Rattle.std.proofs.Common.{◌≡◌, ℕ, List, Option, Some, None, refl, ◌∙◌, ap, subst, rules}
use Rattle.std.specs.Prelude.{slice_set}
use Rattle.std.specs.List.{Contains}
use Rattle.range_index.specs.Entries.{Entry, entry_of, HaveOneRange, IsPlaceOf, ChangesRange}
use Rattle.range_index.proofs.ChangeLemmas.{some_is}
use Rattle.tree_index.specs.declared.notes.Place.TheVariants.{Leaf}
use Rattle.tree_index.specs.Trees.{Node, note_of}
use Rattle.tree_index.specs.Indexes.{node_at}
use Rattle.tree_index.specs.Changes.{SetsKey, child_in, with_children}
use Rattle.tree_index.proofs.ChildLemmas.{changes_set, found_at, id_at, set_once}
use Rattle.tree_index.proofs.NoteLemmas.{changes_noted, note_in}
use Rattle.tree_index.proofs.ShapeLemmas.{one_node, no_node, listed_in, same_level}
use Rattle.tree_index.proofs.TreeLemmas.{stands_in, leaf_alone, leaf_not_late, same_without, tree_gets}
use Rattle.tree_index.proofs.nodes.Tree.change_in_leaf.Goals as goal

pub returns-in_default-clause-changed : goal.returns-in_default-clause-changed
returns-in_default-clause-changed c =
    let stands = stands_in c.requires.tree c.args.id c.requires.there.0 c.args.leaf c.requires.there.1 in
    let none : node_at c.args.self.now c.args.leaf ≡ None = search rules in
    absurd (no_node (node_at c.args.self.now c.args.leaf) stands.node none stands.there)

pub returns-in_default-place_of-clause-changed : goal.returns-in_default-place_of-clause-changed
returns-in_default-place_of-clause-changed c =
    let stands = stands_in c.requires.tree c.args.id c.requires.there.0 c.args.leaf c.requires.there.1 in
    let node : Node = c.in-Some.node.now in
    let there : node_at c.args.self.now c.args.leaf ≡ Some node = search rules in
    let children : c.as_slice.result.now ≡ node.children = c.as_slice.ensures.value ∙ ap (λ (n : Node). n.children) c.node.view_is in
    let listed : Contains node.children (entry_of c.args.id c.requires.there.0) =
    listed_in (node_at c.args.self.now c.args.leaf) stands.node node (entry_of c.args.id c.requires.there.0)
    stands.there there stands.listed in
    absurd (c.in_default-place_of.ensures (entry_of c.args.id c.requires.there.0) (rw children listed) refl)

pub set_range-requires : goal.set_range-requires
set_range-requires c =
    let node : Node = c.in-Some.node.now in
    let place : ℕ = c.in-Some-place_of.place in
    let there : node_at c.args.self.now c.args.leaf ≡ Some node = search rules in
    let children : c.as_slice.result.now ≡ node.children = c.as_slice.ensures.value ∙ ap (λ (n : Node). n.children) c.node.view_is in
    let found = found_at node.children place c.args.id (subst (λ (l : List Entry). IsPlaceOf l c.args.id place) children c.in-Some-place_of.ensures) in
    some_is (child_in (node_at c.args.self.now c.args.leaf) place) found.0 (ap (λ (o : Option Node). child_in o place) there ∙ found.1)

noted : (c : goal.After-note) → SetsKey (note_in c.args.self.now.notes.entries) (note_in c.note.new.self.notes.entries)
    c.args.id (Some (note_of c.args.range (Leaf c.args.leaf)))
noted c = rw c.set_range.ensures.set.notes at c.note.ensures.noted

pub returns-clause-tree : goal.returns-clause-tree
returns-clause-tree c =
    let tree = c.requires.tree in
    let id = c.args.id in
    let range = c.args.range in
    let stands = stands_in tree id c.requires.there.0 c.args.leaf c.requires.there.1 in
    let found : node_at c.args.self.now c.args.leaf ≡ Some c.in-Some.node.now = search rules in
    let children : c.as_slice.result.now ≡ c.in-Some.node.now.children = c.as_slice.ensures.value ∙ ap (λ (n : Node). n.children) c.node.view_is in
    let sets = c.set_range.ensures in
    let node : Node = sets.node in
    let child : Entry = sets.child in
    let place : ℕ = c.in-Some-place_of.place in
    let same : c.in-Some.node.now ≡ node = one_node (node_at c.args.self.now c.args.leaf) c.in-Some.node.now node found sets.there in
    let is : child.id ≡ id =
    id_at node.children place id child (subst (λ (n : Node). IsPlaceOf n.children id place) same
    (subst (λ (l : List Entry). IsPlaceOf l id place) children c.in-Some-place_of.ensures)) sets.here in
    let once : HaveOneRange node.children = tree.shape.once c.args.leaf node sets.there in
    let left : List Entry = slice_set node.children place (entry_of child.id range) in
    let changes : ChangesRange node.children left id range = subst (λ (i : ℕ). ChangesRange node.children left i range)
    is (changes_set node.children place child range sets.here once) in
    let lowest : node.level ≡ 0 = same_level (node_at c.args.self.now c.args.leaf) node stands.node sets.there stands.there ∙ stands.lowest in
    rw (c.note.ensures.root, sets.set.root, c.note.ensures.late, sets.set.late, c.note.ensures.nodes)
    (tree_gets tree c.note.new.self.notes.entries c.note.ensures.unique (node_at c.set_range.new.self) c.args.leaf
    node (with_children node left)
    sets.there lowest sets.set.nodes refl (set_once node.children place child range sets.here once)
    c.args.self.now.late.items id range changes c.requires.admits
    (same_without tree id (leaf_not_late tree id c.requires.there.0 c.args.leaf c.requires.there.1)) tree.late_once
    (leaf_alone tree id c.requires.there.0 c.args.leaf c.requires.there.1) (noted c))

pub returns-clause-changed : goal.returns-clause-changed
returns-clause-changed c =
    changes_noted c.args.self.now.notes.entries c.note.new.self.notes.entries c.requires.tree.unique
    c.note.ensures.unique c.args.id c.args.range (Leaf c.args.leaf) (noted c)
