use Rattle.std.proofs.Common.{◌≡◌, ap, sym, subst, List}
use Rattle.range_index.specs.Entries.{Entry, HaveOneRange, HasNoId, Inserts}
use Rattle.range_index.specs.Lists.{ListValue}
use Rattle.range_index.proofs.EntryLemmas.{one_more, inserts}
use Rattle.range_index.proofs.list.ListIndexRangeIndex.insert.Goals as goal

pub invariant_of-self : goal.invariant_of-self
invariant_of-self c =
    let old : c.self.inside.slots.items ≡ c.args.self.now.entries = ap (λ (v : ListValue). v.entries) c.self.view_is in
    let absent : HasNoId c.self.inside.slots.items c.args.id = rw old c.requires.absent in
    subst (λ (l : List Entry). HaveOneRange l) (sym c.push_reserved.ensures.items)
    (one_more c.self.inside.slots.items c.args.id c.args.range absent c.self.invariant)

pub returns-clause-inserted : goal.returns-clause-inserted
returns-clause-inserted c =
    let old : c.self.inside.slots.items ≡ c.args.self.now.entries = ap (λ (v : ListValue). v.entries) c.self.view_is in
    subst (λ (l : List Entry). Inserts l c.push_reserved.new.self.items c.args.id c.args.range) old
    (subst (λ (l : List Entry). Inserts c.self.inside.slots.items l c.args.id c.args.range)
    (sym c.push_reserved.ensures.items) (inserts c.self.inside.slots.items c.args.id c.args.range))
