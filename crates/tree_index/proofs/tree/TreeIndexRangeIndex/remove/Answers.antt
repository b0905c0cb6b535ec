use Rattle.std.proofs.Common.{◌≡◌, List, ap, subst}
use Rattle.range_index.specs.Entries.{Entry, Removes}
use Rattle.tree_index.specs.Indexes.{TreeValue, entries_in}
use Rattle.tree_index.proofs.tree.TreeIndexRangeIndex.remove.Goals as goal

pub returns-clause-removed : goal.returns-clause-removed
returns-clause-removed c =
    let same : entries_in c.self.inside.tree ≡ c.args.self.now.entries = ap (λ (v : TreeValue). v.entries) c.self.view_is in
    subst (λ (l : List Entry). Removes l (entries_in c.take_out.new.self) c.args.id) same c.take_out.ensures.removed
