use Rattle.std.proofs.Common.{arith}
use Rattle.range_index.proofs.TableLemmas.{added, count_fits, inserted, on_ok}
use Rattle.range_index.proofs.tables.Tables.add.Goals as goal

pub prove-unreachable-requires : goal.prove-unreachable-requires
prove-unreachable-requires c = omega (arith, count_fits c.home_of-home.result c.requires.grid, c.count-place.ensures, c.len-all.ensures.len)

pub returns-clause-grid : goal.returns-clause-grid
returns-clause-grid c =
    let tables = c.args.self.now in
    added c.insert.new.self.entries c.insert-2.new.self.entries c.insert-3.new.self.entries c.max-self.result
    c.max-self-2.result c.args.id c.args.range c.home_of-home.result c.count-place.result
    c.requires.grid c.home_of-home.ensures.home c.home_of-home.ensures.fits c.count-place.ensures c.requires.absent c.insert.ensures.unique
    (on_ok c.insert.result (c.insert.ensures.succeeds (omega (arith, c.requires.room))) c.insert.ensures.updates).0
    (on_ok c.insert-2.result (c.insert-2.ensures.succeeds (omega (arith, c.requires.room))) c.insert-2.ensures.updates).0
    (on_ok c.insert-3.result (c.insert-3.ensures.succeeds (omega (arith, c.requires.room))) c.insert-3.ensures.updates).0
    c.max-self.ensures c.max-self-2.ensures

pub returns-clause-inserted : goal.returns-clause-inserted
returns-clause-inserted c =
    inserted c.insert.new.self.entries c.args.id c.args.range c.home_of-home.result c.count-place.result c.requires.grid
    c.count-place.ensures c.insert.ensures.unique
    (on_ok c.insert.result (c.insert.ensures.succeeds (omega (arith, c.requires.room))) c.insert.ensures.updates).0
