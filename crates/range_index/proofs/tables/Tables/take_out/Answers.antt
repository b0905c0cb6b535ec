use Rattle.std.proofs.Common.{◌≡◌, ◌≢◌, Some, None, refl, sym, ◌∙◌, ap, arith}
use Rattle.range_index.specs.declared.tables.Tables.{Tables}
use Rattle.range_index.specs.declared.tiles.Slot.{Slot}
use Rattle.range_index.specs.Entries.{Entry, entry_of}
use Rattle.range_index.specs.Grids.{count_at, entry_at, stands_at}
use Rattle.range_index.specs.Changes.{last_slot}
use Rattle.range_index.proofs.ChangeLemmas.{TakesOut, some_is}
use Rattle.range_index.proofs.TableLemmas.{grid_after, is_noted, last_there, noted_there, removed_after, sets_id}
use Rattle.range_index.proofs.TakeLemmas.{Forgets, moved_last, still_there, took_last}
use Rattle.range_index.proofs.tables.Tables.take_out.Goals as goal

pub returns-in_default-clause-removed : goal.returns-in_default-clause-removed
returns-in_default-clause-removed c = absurd (is_noted c.args.id c.requires.grid c.requires.there (sym c.remove.ensures.value ∙ c.in_default.is))

pub take_last-requires : goal.take_last-requires
take_last-requires c =
    let there = noted_there c.args.id c.in-Some.slot c.requires.grid c.requires.there (sym c.remove.ensures.value ∙ c.in-Some.is) in
    omega (arith, c.requires.grid.grid.counted c.in-Some.slot (entry_of c.args.id c.requires.there.range) there)

-- there is a last entry
nothing_last : (c : goal.In_default-take_last) → ⊥
nothing_last c =
    let old : Tables = c.args.self.now in
    let there = noted_there c.args.id c.in-Some.slot c.requires.grid c.requires.there (sym c.remove.ensures.value ∙ c.in-Some.is) in
    last_there (entry_at old) (count_at old) (stands_at old) old.tallest old.widest c.in-Some.slot.home c.requires.grid.grid
    (omega (arith, c.requires.grid.grid.counted c.in-Some.slot (entry_of c.args.id c.requires.there.range) there))
    (sym c.take_last.ensures.item ∙ c.in_default-take_last.is)

pub returns-in_default-take_last-clause-grid : goal.returns-in_default-take_last-clause-grid
returns-in_default-take_last-clause-grid c = absurd (nothing_last c)

pub returns-in_default-take_last-clause-removed : goal.returns-in_default-take_last-clause-removed
returns-in_default-take_last-clause-removed c = absurd (nothing_last c)

pub put_at-requires-clause-slot : goal.put_at-requires-clause-slot
put_at-requires-clause-slot c =
    let old : Tables = c.args.self.now in
    let slot : Slot = c.in-Some.slot in
    let out : Entry = entry_of c.args.id c.requires.there.range in
    let there : entry_at old slot ≡ Some out = noted_there c.args.id slot c.requires.grid c.requires.there (sym c.remove.ensures.value ∙ c.in-Some.is) in
    let mid : Tables = record { items = old.items; counts = old.counts; slots = c.remove.new.self; tallest = old.tallest; widest = old.widest } in
    let forgets : Forgets old mid c.args.id = record {
      at = λ s. refl;
      count = λ h. refl;
      slots = sets_id (stands_at old) (stands_at mid) c.args.id None c.remove.ensures.updates.0;
    } in
    let other : c.in-Some-take_last.last.id ≢ c.args.id = λ same. c.if-last-id.true (ap (λ (e : Entry). e.id) c.last.view_is ∙ same) in
    some_is (entry_at c.take_last.new.self slot) out
    (still_there old mid c.take_last.new.self slot out c.in-Some-take_last.last there forgets c.take_last.ensures.taken
    (sym c.take_last.ensures.item ∙ c.in-Some-take_last.is) other)

-- where another entry has taken the place
others_take : (c : goal.After-put_at) → let old = c.args.self.now in
    TakesOut (entry_at old) (entry_at c.put_at.new.self) (count_at old) (count_at c.put_at.new.self) (stands_at old)
    (stands_at c.put_at.new.self) c.in-Some.slot (last_slot old c.in-Some.slot.home)
    (entry_of c.args.id c.requires.there.range) c.in-Some-take_last.last
others_take c =
    let old : Tables = c.args.self.now in
    let slot : Slot = c.in-Some.slot in
    let out : Entry = entry_of c.args.id c.requires.there.range in
    let there : entry_at old slot ≡ Some out = noted_there c.args.id slot c.requires.grid c.requires.there (sym c.remove.ensures.value ∙ c.in-Some.is) in
    let mid : Tables = record { items = old.items; counts = old.counts; slots = c.remove.new.self; tallest = old.tallest; widest = old.widest } in
    let forgets : Forgets old mid c.args.id = record {
      at = λ s. refl;
      count = λ h. refl;
      slots = sets_id (stands_at old) (stands_at mid) c.args.id None c.remove.ensures.updates.0;
    } in
    let other : c.in-Some-take_last.last.id ≢ c.args.id = λ same. c.if-last-id.true (ap (λ (e : Entry). e.id) c.last.view_is ∙ same) in
    moved_last old mid c.take_last.new.self c.put_at.new.self slot out c.in-Some-take_last.last c.requires.grid there
    forgets c.take_last.ensures.taken (sym c.take_last.ensures.item ∙ c.in-Some-take_last.is) other c.put_at.ensures

pub returns-then-last-id-clause-grid : goal.returns-then-last-id-clause-grid
returns-then-last-id-clause-grid c =
    grid_after c.args.self.now c.put_at.new.self c.in-Some.slot (last_slot c.args.self.now c.in-Some.slot.home)
    (entry_of c.args.id c.requires.there.range) c.in-Some-take_last.last c.requires.grid c.put_at.ensures.one_key
    (c.put_at.ensures.tallest ∙ c.take_last.ensures.taken.tallest) (c.put_at.ensures.widest ∙ c.take_last.ensures.taken.widest) (others_take c)

pub returns-then-last-id-clause-removed : goal.returns-then-last-id-clause-removed
returns-then-last-id-clause-removed c =
    removed_after c.args.self.now c.put_at.new.self c.in-Some.slot (last_slot c.args.self.now c.in-Some.slot.home)
    (entry_of c.args.id c.requires.there.range) c.in-Some-take_last.last c.requires.grid c.put_at.ensures.one_key
    (others_take c)

-- where it stood at the last place
itself_last : (c : goal.Else-last-id) → let old = c.args.self.now in
    TakesOut (entry_at old) (entry_at c.take_last.new.self) (count_at old) (count_at c.take_last.new.self)
    (stands_at old) (stands_at c.take_last.new.self) c.in-Some.slot (last_slot old c.in-Some.slot.home)
    (entry_of c.args.id c.requires.there.range) c.in-Some-take_last.last
itself_last c =
    let old : Tables = c.args.self.now in
    let slot : Slot = c.in-Some.slot in
    let out : Entry = entry_of c.args.id c.requires.there.range in
    let there : entry_at old slot ≡ Some out = noted_there c.args.id slot c.requires.grid c.requires.there (sym c.remove.ensures.value ∙ c.in-Some.is) in
    let mid : Tables = record { items = old.items; counts = old.counts; slots = c.remove.new.self; tallest = old.tallest; widest = old.widest } in
    let forgets : Forgets old mid c.args.id = record {
      at = λ s. refl;
      count = λ h. refl;
      slots = sets_id (stands_at old) (stands_at mid) c.args.id None c.remove.ensures.updates.0;
    } in
    let same : c.in-Some-take_last.last.id ≡ c.args.id = sym (ap (λ (e : Entry). e.id) c.last.view_is) ∙ c.if-last-id.false in
    took_last old mid c.take_last.new.self slot out c.in-Some-take_last.last c.requires.grid there forgets
    c.take_last.ensures.taken (sym c.take_last.ensures.item ∙ c.in-Some-take_last.is) same

pub returns-else-last-id-clause-grid : goal.returns-else-last-id-clause-grid
returns-else-last-id-clause-grid c =
    grid_after c.args.self.now c.take_last.new.self c.in-Some.slot (last_slot c.args.self.now c.in-Some.slot.home)
    (entry_of c.args.id c.requires.there.range) c.in-Some-take_last.last c.requires.grid
    c.take_last.ensures.taken.one_key
    c.take_last.ensures.taken.tallest c.take_last.ensures.taken.widest (itself_last c)

pub returns-else-last-id-clause-removed : goal.returns-else-last-id-clause-removed
returns-else-last-id-clause-removed c =
    removed_after c.args.self.now c.take_last.new.self c.in-Some.slot (last_slot c.args.self.now c.in-Some.slot.home)
    (entry_of c.args.id c.requires.there.range) c.in-Some-take_last.last c.requires.grid
    c.take_last.ensures.taken.one_key (itself_last c)
