use Rattle.std.proofs.Common.{◌≡◌, List, ap, subst}
use Rattle.range_index.specs.Entries.{Entry, ChangesRange}
use Rattle.range_index.specs.Grids.{GridValue, entries_in}
use Rattle.range_index.proofs.grid.GridIndexRangeIndex.change.Goals as goal

pub returns-clause-changed : goal.returns-clause-changed
returns-clause-changed c =
    let same : entries_in c.self.inside.tables ≡ c.args.self.now.entries = ap (λ (v : GridValue). v.entries) c.self.view_is in
    subst (λ (l : List Entry). ChangesRange l (entries_in c.change.new.self) c.args.id c.args.to) same c.change.ensures.changed
