use Rattle.std.proofs.Common.{sym, ◌∙◌}
use Rattle.range_index.specs.Entries.{entry_of}
use Rattle.range_index.specs.Grids.{entries_in, entry_at}
use Rattle.range_index.proofs.ChangeLemmas.{some_is}
use Rattle.range_index.proofs.SlotLemmas.{home_same}
use Rattle.range_index.proofs.RangeLemmas.{absent_after, are_changed, changes_by, entries_changed}
use Rattle.range_index.proofs.TableLemmas.{is_noted, noted_there}
use Rattle.range_index.proofs.tables.Tables.change.Goals as goal

pub returns-in_default-clause-changed : goal.returns-in_default-clause-changed
returns-in_default-clause-changed c = absurd (is_noted c.args.id c.requires.grid c.requires.there (sym c.stands.ensures ∙ c.in_default.is))

pub write-requires : goal.write-requires
write-requires c =
    some_is (entry_at c.args.self.now c.in-Some.slot) (entry_of c.args.id c.requires.there.range)
    (noted_there c.args.id c.in-Some.slot c.requires.grid c.requires.there (sym c.stands.ensures ∙ c.in-Some.is))

pub returns-then-eq-clause-grid : goal.returns-then-eq-clause-grid
returns-then-eq-clause-grid c =
    are_changed c.write.new.map.entries c.args.id c.args.range c.in-Some.slot c.requires.grid c.requires.there (sym c.stands.ensures ∙ c.in-Some.is)
    c.write.ensures.unique c.write.ensures.written.0 (home_same c.in-Some.slot.home c.home_of.result (sym c.eq.ensures
    ∙ c.if-eq.true) ∙ c.home_of.ensures.home) c.home_of.ensures.fits

pub returns-then-eq-clause-changed : goal.returns-then-eq-clause-changed
returns-then-eq-clause-changed c =
    entries_changed c.write.new.map.entries c.args.id c.args.range c.in-Some.slot c.requires.grid c.requires.there (sym c.stands.ensures ∙ c.in-Some.is)
    c.write.ensures.unique c.write.ensures.written.0

pub add-requires-clause-absent : goal.add-requires-clause-absent
add-requires-clause-absent c = absent_after (entries_in c.args.self.now) (entries_in c.take_out.new.self) c.args.id c.take_out.ensures.removed

pub returns-else-eq-clause-changed : goal.returns-else-eq-clause-changed
returns-else-eq-clause-changed c =
    changes_by (entries_in c.args.self.now) (entries_in c.take_out.new.self) (entries_in c.add.new.self) c.args.id
    c.args.range c.take_out.ensures.removed c.add.ensures.inserted
