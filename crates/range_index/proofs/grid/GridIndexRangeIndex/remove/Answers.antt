use Rattle.std.proofs.Common.{◌≡◌, List, ap, subst}
use Rattle.range_index.specs.Entries.{Entry, Removes}
use Rattle.range_index.specs.Grids.{GridValue, entries_in}
use Rattle.range_index.proofs.grid.GridIndexRangeIndex.remove.Goals as goal

pub returns-clause-removed : goal.returns-clause-removed
returns-clause-removed c =
    let same : entries_in c.self.inside.tables ≡ c.args.self.now.entries = ap (λ (v : GridValue). v.entries) c.self.view_is in
    subst (λ (l : List Entry). Removes l (entries_in c.take_out.new.self) c.args.id) same c.take_out.ensures.removed
