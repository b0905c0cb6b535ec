use Rattle.std.proofs.Common.{◌≡◌, List, ap, subst}
use Rattle.range_index.specs.Entries.{Entry, HaveOneRange}
use Rattle.range_index.specs.Grids.{GridValue, entries_in}
use Rattle.range_index.proofs.TableLemmas.{one_range}
use Rattle.range_index.proofs.grid.GridIndexRangeIndex.overlapping.Goals as goal

pub returns-clause-one_range : goal.returns-clause-one_range
returns-clause-one_range c =
    let same : entries_in c.self.inside.tables ≡ c.args.self.now.entries = ap (λ (v : GridValue). v.entries) c.self.view_is in
    subst (λ (l : List Entry). HaveOneRange l) same (one_range c.self.invariant)
