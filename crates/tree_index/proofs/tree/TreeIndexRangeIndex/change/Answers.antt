use Rattle.std.proofs.Common.{◌≡◌, List, ap, subst}
use Rattle.range_index.specs.Entries.{Entry, ChangesRange}
use Rattle.tree_index.specs.Indexes.{TreeValue, entries_in}
use Rattle.tree_index.proofs.tree.TreeIndexRangeIndex.change.Goals as goal

pub returns-clause-changed : goal.returns-clause-changed
returns-clause-changed c =
    let same : entries_in c.self.inside.tree ≡ c.args.self.now.entries = ap (λ (v : TreeValue). v.entries) c.self.view_is in
    subst (λ (l : List Entry). ChangesRange l (entries_in c.change.new.self) c.args.id c.args.to) same c.change.ensures.changed
