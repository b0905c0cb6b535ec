use Rattle.std.proofs.Common.{List, None, refl, subst}
use Rattle.range_index.specs.Entries.{Entry, entry_of, HaveOneRange, IsPlaceOf, Removes}
use Rattle.tree_index.specs.Changes.{SetsKey}
use Rattle.tree_index.proofs.ChildLemmas.{removes_place}
use Rattle.tree_index.proofs.NoteLemmas.{sets_note, removes_noted, note_in}
use Rattle.tree_index.proofs.TreeLemmas.{stands_late, late_not_leaf, tree_late_loses}
use Rattle.tree_index.proofs.nodes.Tree.take_late.Goals as goal

pub returns-in_default-clause-removed : goal.returns-in_default-clause-removed
returns-in_default-clause-removed c =
    let tree = c.requires.tree in
    absurd (c.in_default.ensures (entry_of c.args.id c.requires.there.0)
    (rw c.as_slice.ensures.value (stands_late tree c.args.id c.requires.there.0 c.requires.there.1)) refl)

noted : (c : goal.After-remove) → SetsKey (note_in c.args.self.now.notes.entries) (note_in c.remove.new.self.entries) c.args.id None
noted c = sets_note (note_in c.args.self.now.notes.entries) (note_in c.remove.new.self.entries) c.args.id None c.remove.ensures.updates.0

removed : (c : goal.After-remove) → Removes c.args.self.now.late.items c.swap_remove.new.self.items c.args.id × HaveOneRange c.swap_remove.new.self.items
removed c =
    removes_place c.args.self.now.late.items c.swap_remove.new.self.items c.in-Some.place c.args.id c.swap_remove.result
    (subst (λ (l : List Entry). IsPlaceOf l c.args.id c.in-Some.place) c.as_slice.ensures.value c.in-Some.ensures)
    c.requires.tree.late_once c.swap_remove.ensures.items

pub returns-clause-tree : goal.returns-clause-tree
returns-clause-tree c =
    tree_late_loses c.requires.tree c.remove.new.self.entries c.remove.ensures.unique c.swap_remove.new.self.items c.args.id (removed c).0 (removed c).1
    (late_not_leaf c.requires.tree c.args.id c.requires.there.0 c.requires.there.1) (noted c)

pub returns-clause-removed : goal.returns-clause-removed
returns-clause-removed c = removes_noted c.args.self.now.notes.entries c.remove.new.self.entries c.requires.tree.unique
    c.remove.ensures.unique c.args.id (noted c)
