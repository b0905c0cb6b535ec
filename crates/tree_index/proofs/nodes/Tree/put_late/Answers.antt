use Rattle.std.proofs.Common.{◌≡◌, Some, arith}
use Rattle.std.proofs.Common.{◌++◌, ◌∷◌, [], List, sym, subst}
use Rattle.range_index.specs.Entries.{Entry, entry_of, HasNoId, HaveOneRange, ChangesRange}
use Rattle.range_index.proofs.TableLemmas.{on_ok}
use Rattle.tree_index.specs.declared.notes.Place.TheVariants.{Late}
use Rattle.tree_index.specs.Trees.{note_of}
use Rattle.tree_index.specs.Changes.{SetsKey}
use Rattle.tree_index.proofs.ChildLemmas.{changes_pushed, pushed_once}
use Rattle.tree_index.proofs.NoteLemmas.{sets_note, changes_noted, inserts_noted, note_in}
use Rattle.tree_index.proofs.TreeLemmas.{not_in_leaf, not_late, tree_late_gets}
use Rattle.tree_index.proofs.nodes.Tree.put_late.Goals as goal

noted : (c : goal.After-insert) → SetsKey (note_in c.args.self.now.notes.entries) (note_in c.insert.new.self.entries)
    c.args.id (Some (note_of c.args.range Late))
noted c =
    sets_note (note_in c.args.self.now.notes.entries) (note_in c.insert.new.self.entries) c.args.id (Some (note_of c.args.range Late))
    (on_ok c.insert.result (c.insert.ensures.succeeds (omega (arith, c.requires.room))) c.insert.ensures.updates).0

pub returns-clause-tree : goal.returns-clause-tree
returns-clause-tree c =
    let tree = c.requires.tree in
    let late : List Entry = c.args.self.now.late.items in
    let entry : Entry = entry_of c.args.id c.args.range in
    let absent : HasNoId late c.args.id = not_late tree c.args.id c.requires.absent in
    let pushed : c.push_reserved.new.self.items ≡ late ++ entry ∷ [] = c.push_reserved.ensures.items in
    tree_late_gets tree c.insert.new.self.entries c.insert.ensures.unique c.push_reserved.new.self.items c.args.id c.args.range
    (subst (λ (l : List Entry). ChangesRange late l c.args.id c.args.range) (sym pushed) (changes_pushed late entry absent))
    (subst (λ (l : List Entry). HaveOneRange l) (sym pushed) (pushed_once late entry absent tree.late_once))
    (λ k e is. not_in_leaf tree c.args.id c.requires.absent k e is) (noted c)

pub returns-clause-inserted : goal.returns-clause-inserted
returns-clause-inserted c =
    let tree = c.requires.tree in
    inserts_noted c.args.self.now.notes.entries c.insert.new.self.entries tree.unique c.insert.ensures.unique c.args.id c.args.range c.requires.absent
    (changes_noted c.args.self.now.notes.entries c.insert.new.self.entries tree.unique c.insert.ensures.unique c.args.id c.args.range Late (noted c))
