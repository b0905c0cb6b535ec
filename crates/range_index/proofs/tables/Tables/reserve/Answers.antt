use Rattle.std.proofs.Common.{refl}
use Rattle.range_index.proofs.TableLemmas.{are_same, entries_same}
use Rattle.range_index.proofs.tables.Tables.reserve.Goals as goal

pub returns-in_err-reserve-2-clause-grid : goal.returns-in_err-reserve-2-clause-grid
returns-in_err-reserve-2-clause-grid c =
    are_same c.reserve.new.self.entries c.reserve-2.new.self.entries c.args.self.now.slots.entries c.requires.grid
    c.reserve.ensures.unique c.reserve.ensures.entries.2 c.reserve-2.ensures.entries.2 (λ i. refl)

pub returns-in_err-reserve-2-clause-same : goal.returns-in_err-reserve-2-clause-same
returns-in_err-reserve-2-clause-same c =
    entries_same c.args.self.now.items.entries c.reserve.new.self.entries c.requires.grid.unique
    c.reserve.ensures.unique c.reserve.ensures.entries.2

pub returns-in_err-reserve-3-clause-grid : goal.returns-in_err-reserve-3-clause-grid
returns-in_err-reserve-3-clause-grid c =
    are_same c.reserve.new.self.entries c.reserve-2.new.self.entries c.reserve-3.new.self.entries c.requires.grid
    c.reserve.ensures.unique c.reserve.ensures.entries.2 c.reserve-2.ensures.entries.2 c.reserve-3.ensures.entries.2

pub returns-in_err-reserve-3-clause-same : goal.returns-in_err-reserve-3-clause-same
returns-in_err-reserve-3-clause-same c =
    entries_same c.args.self.now.items.entries c.reserve.new.self.entries c.requires.grid.unique
    c.reserve.ensures.unique c.reserve.ensures.entries.2

pub returns-clause-grid : goal.returns-clause-grid
returns-clause-grid c =
    are_same c.reserve.new.self.entries c.reserve-2.new.self.entries c.reserve-3.new.self.entries c.requires.grid
    c.reserve.ensures.unique c.reserve.ensures.entries.2 c.reserve-2.ensures.entries.2 c.reserve-3.ensures.entries.2

pub returns-clause-same : goal.returns-clause-same
returns-clause-same c = entries_same c.args.self.now.items.entries c.reserve.new.self.entries c.requires.grid.unique
    c.reserve.ensures.unique c.reserve.ensures.entries.2
