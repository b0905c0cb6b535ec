use Rattle.std.proofs.Common.{◌≡◌, ◌++◌, ◌∷◌, [], ◌∙◌, Some, refl, arith}
use Rattle.range_index.specs.Entries.{Entry, entry_of, HasNoId}
use Rattle.range_index.proofs.TableLemmas.{on_ok}
use Rattle.tree_index.specs.declared.notes.Place.TheVariants.{Leaf}
use Rattle.tree_index.specs.Trees.{Node, note_of}
use Rattle.tree_index.specs.Indexes.{node_at}
use Rattle.tree_index.specs.Changes.{SetsKey, with_children}
use Rattle.tree_index.proofs.ChildLemmas.{changes_pushed, pushed_once}
use Rattle.tree_index.proofs.NoteLemmas.{sets_note, changes_noted, inserts_noted, note_in}
use Rattle.tree_index.proofs.ShapeLemmas.{same_level}
use Rattle.tree_index.proofs.TreeLemmas.{not_in_leaf, not_late, same_without, tree_gets}
use Rattle.tree_index.proofs.nodes.Tree.put_in_leaf.Goals as goal

noted : (c : goal.After-insert) → SetsKey (note_in c.args.self.now.notes.entries) (note_in c.insert.new.self.entries)
    c.args.id (Some (note_of c.args.range (Leaf c.args.leaf)))
noted c =
    let set = c.push_child.ensures.set in
    sets_note (note_in c.args.self.now.notes.entries) (note_in c.insert.new.self.entries) c.args.id (Some (note_of c.args.range (Leaf c.args.leaf)))
    (rw set.notes at (on_ok c.insert.result (c.insert.ensures.succeeds (rw set.notes (omega (arith, c.requires.room)))) c.insert.ensures.updates).0)

pub returns-clause-tree : goal.returns-clause-tree
returns-clause-tree c =
    let tree = c.requires.tree in
    let set = c.push_child.ensures.set in
    let node : Node = c.push_child.ensures.node in
    let entry : Entry = entry_of c.args.id c.args.range in
    let lowest : node.level ≡ 0 = same_level (node_at c.args.self.now c.args.leaf) node c.requires.leaf.leaf
    c.push_child.ensures.there c.requires.leaf.there ∙ c.requires.leaf.lowest in
    let absent : HasNoId node.children c.args.id = λ e listed. not_in_leaf tree c.args.id c.requires.absent c.args.leaf
    e (record { node = node; there = c.push_child.ensures.there; lowest = lowest; listed = listed }) in
    rw (set.root, set.late) (tree_gets tree c.insert.new.self.entries c.insert.ensures.unique
    (node_at c.push_child.new.self) c.args.leaf node (with_children node (node.children ++ entry ∷ []))
    c.push_child.ensures.there lowest set.nodes refl (pushed_once node.children entry absent (tree.shape.once c.args.leaf node c.push_child.ensures.there))
    c.args.self.now.late.items c.args.id c.args.range (changes_pushed node.children entry absent) c.requires.leaf.admits
    (same_without tree c.args.id (not_late tree c.args.id c.requires.absent)) tree.late_once
    (λ k e other is. not_in_leaf tree c.args.id c.requires.absent k e is) (noted c))

pub returns-clause-inserted : goal.returns-clause-inserted
returns-clause-inserted c =
    let tree = c.requires.tree in
    inserts_noted c.args.self.now.notes.entries c.insert.new.self.entries tree.unique c.insert.ensures.unique c.args.id c.args.range c.requires.absent
    (changes_noted c.args.self.now.notes.entries c.insert.new.self.entries tree.unique c.insert.ensures.unique c.args.id
    c.args.range (Leaf c.args.leaf) (noted c))
