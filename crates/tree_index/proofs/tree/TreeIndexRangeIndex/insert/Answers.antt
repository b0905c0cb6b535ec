use Rattle.std.proofs.Common.{◌≡◌, List, ap, sym, subst}
use Rattle.range_index.specs.Entries.{Entry, HasNoId, Inserts}
use Rattle.tree_index.specs.Indexes.{TreeValue, entries_in}
use Rattle.tree_index.proofs.tree.TreeIndexRangeIndex.insert.Goals as goal

pub add-requires-clause-absent : goal.add-requires-clause-absent
add-requires-clause-absent c =
    let same : entries_in c.self.inside.tree ≡ c.args.self.now.entries = ap (λ (v : TreeValue). v.entries) c.self.view_is in
    subst (λ (l : List Entry). HasNoId l c.args.id) (sym same) c.requires.absent

pub returns-clause-inserted : goal.returns-clause-inserted
returns-clause-inserted c =
    let same : entries_in c.self.inside.tree ≡ c.args.self.now.entries = ap (λ (v : TreeValue). v.entries) c.self.view_is in
    subst (λ (l : List Entry). Inserts l (entries_in c.add.new.self) c.args.id c.args.range) same c.add.ensures.inserted
