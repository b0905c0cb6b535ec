use Rattle.std.proofs.Common.{◌≡◌, ◌++◌, ◌∷◌, [], ℕ, ◌-◌, Some, length, get_or, vec_len, refl, ◌∙◌, subst, arith, rules}
use Rattle.range_index.specs.Entries.{Entry, HasNoId, HaveOneRange, Removes}
use Rattle.range_index.proofs.ChangeLemmas.{some_is}
use Rattle.tree_index.specs.declared.notes.Place.TheVariants.{Leaf, Late}
use Rattle.tree_index.specs.Trees.{Node, note_of}
use Rattle.tree_index.specs.Indexes.{node_at}
use Rattle.tree_index.specs.Changes.{SetsKey, note_at, with_children}
use Rattle.tree_index.proofs.ChildLemmas.{changes_pushed, listed_at, popped, pushed_once, removes_last}
use Rattle.tree_index.proofs.NoteLemmas.{changes_noted, same_entries, note_in}
use Rattle.tree_index.proofs.ShapeLemmas.{same_level}
use Rattle.tree_index.proofs.TreeLemmas.{late_not_leaf, noted_late, tree_gets}
use Rattle.tree_index.proofs.nodes.Tree.settle.Goals as goal

pub note-requires : goal.note-requires
note-requires c =
    let last : Entry = c.args.last in
    let there : note_at c.args.self.now last.id ≡ Some (note_of last.range Late) =
    noted_late c.requires.tree last (listed_at c.args.self.now.late.items (length c.args.self.now.late.items - 1)
    last c.requires.last) in
    rw c.push_child.ensures.set.notes (some_is (note_at c.args.self.now last.id) (note_of last.range Late) there)

there : (c : goal.After-note) → note_in c.args.self.now.notes.entries c.args.last.id ≡ Some (note_of c.args.last.range Late)
there c = noted_late c.requires.tree c.args.last (listed_at c.args.self.now.late.items (length c.args.self.now.late.items - 1) c.args.last c.requires.last)

noted : (c : goal.After-note) → SetsKey (note_in c.args.self.now.notes.entries) (note_in c.note.new.self.notes.entries)
    c.args.last.id (Some (note_of c.args.last.range (Leaf c.args.leaf)))
noted c = rw c.push_child.ensures.set.notes at c.note.ensures.noted

pub returns-clause-tree : goal.returns-clause-tree
returns-clause-tree c =
    let tree = c.requires.tree in
    let last : Entry = c.args.last in
    let set = c.push_child.ensures.set in
    let node : Node = c.push_child.ensures.node in
    let lowest : node.level ≡ 0 = same_level (node_at c.args.self.now c.args.leaf) node c.requires.leaf.leaf
    c.push_child.ensures.there c.requires.leaf.there ∙ c.requires.leaf.lowest in
    let elsewhere = late_not_leaf tree last.id last.range (there c) in
    let absent : HasNoId node.children last.id =
    λ e listed. elsewhere c.args.leaf e (record {
      node = node;
      there = c.push_child.ensures.there;
      lowest = lowest;
      listed = listed;
    }) in
    let len : vec_len c.args.self.now.late ≡ length c.args.self.now.late.items = search rules in
    let whole : c.args.self.now.late.items ≡ c.pop.new.self.items ++ last
    ∷ [] = popped c.args.self.now.late.items c.pop.new.self.items c.pop.result last c.pop.ensures.items
    (λ d below. subst (λ (n : ℕ). c.pop.result ≡ Some (get_or c.args.self.now.late.items (n - 1) d)) len
    (c.pop.ensures.value d (omega (arith, below, len)))) c.requires.last in
    let removes : Removes c.args.self.now.late.items c.pop.new.self.items last.id × HaveOneRange c.pop.new.self.items =
    removes_last c.args.self.now.late.items c.pop.new.self.items last whole tree.late_once in
    rw (c.note.ensures.root, set.root, c.note.ensures.late, set.late, c.note.ensures.nodes)
    (tree_gets tree c.note.new.self.notes.entries c.note.ensures.unique (node_at c.push_child.new.self) c.args.leaf
    node (with_children node (node.children ++ last ∷ []))
    c.push_child.ensures.there lowest set.nodes refl (pushed_once node.children last absent (tree.shape.once c.args.leaf node c.push_child.ensures.there))
    c.pop.new.self.items last.id last.range (changes_pushed node.children last absent) c.requires.leaf.admits removes.0 removes.1
    (λ k e other is. elsewhere k e is) (noted c))

pub returns-clause-same : goal.returns-clause-same
returns-clause-same c =
    same_entries c.args.self.now.notes.entries c.note.new.self.notes.entries c.requires.tree.unique
    c.note.ensures.unique c.args.last.id c.args.last.range Late (there c)
    (changes_noted c.args.self.now.notes.entries c.note.new.self.notes.entries c.requires.tree.unique
    c.note.ensures.unique c.args.last.id c.args.last.range (Leaf c.args.leaf) (noted c))
