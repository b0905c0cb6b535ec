use Rattle.std.proofs.Common.{◌≡◌, List, ap, subst}
use Rattle.range_index.specs.Entries.{Entry, SameEntries}
use Rattle.tree_index.specs.Indexes.{TreeValue, entries_in}
use Rattle.tree_index.proofs.tree.TreeIndexRangeIndex.reserve.Goals as goal

pub returns-clause-same : goal.returns-clause-same
returns-clause-same c =
    let same : entries_in c.self.inside.tree ≡ c.args.self.now.entries = ap (λ (v : TreeValue). v.entries) c.self.view_is in
    subst (λ (l : List Entry). SameEntries l (entries_in c.reserve.new.self)) same c.reserve.ensures.same
