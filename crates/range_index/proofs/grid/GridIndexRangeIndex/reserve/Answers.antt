use Rattle.std.proofs.Common.{◌≡◌, List, ap, subst}
use Rattle.range_index.specs.Entries.{Entry, SameEntries}
use Rattle.range_index.specs.Grids.{GridValue, entries_in}
use Rattle.range_index.proofs.grid.GridIndexRangeIndex.reserve.Goals as goal

pub returns-clause-same : goal.returns-clause-same
returns-clause-same c =
    let same : entries_in c.self.inside.tables ≡ c.args.self.now.entries = ap (λ (v : GridValue). v.entries) c.self.view_is in
    subst (λ (l : List Entry). SameEntries l (entries_in c.reserve.new.self)) same c.reserve.ensures.same
