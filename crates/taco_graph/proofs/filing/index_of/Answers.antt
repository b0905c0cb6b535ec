use Rattle.std.proofs.Common.{◌≡◌, get_or, rules, sym, subst}
use Rattle.range_index.specs.Entries.{Entry, entry_of}
use Rattle.taco_graph.proofs.FilingLemmas.{filled_none, filled_lacks, filled_more, filled_all}
use Rattle.taco_graph.proofs.filing.index_of.Goals as goal

pub loop-item-init : goal.loop-item-init
loop-item-init g c =
    let entries = g.I.RangeIndex.entries in
    filled_none (entries c.empty-index.result) (entries c.reserve.new.self) (entries c.set_insert_order.new.self) c.args.items.now
    c.empty-index.ensures c.reserve.ensures.same c.set_insert_order.ensures.same

pub insert-requires-clause-absent : goal.insert-requires-clause-absent
insert-requires-clause-absent g c =
    let entries = g.I.RangeIndex.entries in
    let items = c.args.items.now in
    let place = c.loop-item.item-index in
    let item : Entry = entry_of c.item.inside.id c.item.inside.range in
    let here : item ≡ get_or items place item =
    subst (λ (e : Entry). e ≡ get_or items place e) (sym c.item.view_is) c.item-item.is in
    filled_lacks items (entries c.loop-item.index) (entries c.reserve-in-loop-item.new.self) place
    item c.requires (search rules) here c.loop-item.invariant c.reserve-in-loop-item.ensures.same

pub loop-item-preserved : goal.loop-item-preserved
loop-item-preserved g c =
    let entries = g.I.RangeIndex.entries in
    let items = c.args.items.now in
    let place = c.loop-item.item-index in
    let item : Entry = entry_of c.item.inside.id c.item.inside.range in
    let here : item ≡ get_or items place item =
    subst (λ (e : Entry). e ≡ get_or items place e) (sym c.item.view_is) c.item-item.is in
    filled_more items (entries c.loop-item.index) (entries c.reserve-in-loop-item.new.self) (entries c.insert.new.self) place
    item (search rules) here c.loop-item.invariant c.reserve-in-loop-item.ensures.same c.insert.ensures.inserted

pub returns : goal.returns
returns g c =
    let entries = g.I.RangeIndex.entries in
    filled_all c.args.items.now (entries c.loop-item.index) (entries c.set_insert_order-2.new.self) c.loop-item.item-index
    c.loop-item-test.false c.loop-item.invariant c.set_insert_order-2.ensures.same
