use Rattle.std.proofs.Common.{◌≡◌, ap, subst, List, refl, rules, arith, length, vec_len}
use Rattle.range_index.specs.Entries.{Entry, entry_of, IsPlaceOf, Removes}
use Rattle.range_index.specs.Lists.{ListValue}
use Rattle.range_index.proofs.EntryLemmas.{TookOut, one_less, removes}
use Rattle.range_index.proofs.list.ListIndexRangeIndex.remove.Goals as goal

took_out : (c : goal.After-swap_remove) → TookOut c.self.inside.slots.items c.swap_remove.new.self.items c.in-Some.place
took_out c = record {
  length_is = omega (arith, old, new, c.swap_remove.ensures.len);
  moved = λ d below. rw (← old) (c.swap_remove.ensures.by_index.0 d (omega (arith, below, old)));
  stayed = λ k d other below. c.swap_remove.ensures.by_index.1 k d other (omega (arith, below, old));
}
  where
    old : vec_len c.self.inside.slots ≡ length c.self.inside.slots.items
    old = search rules

    new : vec_len c.swap_remove.new.self ≡ length c.swap_remove.new.self.items
    new = search rules

stands : (c : goal.After-swap_remove) → IsPlaceOf c.self.inside.slots.items c.args.id c.in-Some.place
stands c = subst (λ (l : List Entry). IsPlaceOf l c.args.id c.in-Some.place) c.deref.ensures.value c.in-Some.ensures

pub invariant_of-self : goal.invariant_of-self
invariant_of-self c = one_less c.self.inside.slots.items c.swap_remove.new.self.items c.in-Some.place (stands c).within (took_out c) c.self.invariant

pub returns-in-Some-clause-removed : goal.returns-in-Some-clause-removed
returns-in-Some-clause-removed c =
    let old : c.self.inside.slots.items ≡ c.args.self.now.entries = ap (λ (v : ListValue). v.entries) c.self.view_is in
    subst (λ (l : List Entry). Removes l c.swap_remove.new.self.items c.args.id) old
    (removes c.self.inside.slots.items c.swap_remove.new.self.items c.args.id c.in-Some.place (stands c) (took_out c) c.self.invariant)

pub returns-in_default-clause-removed : goal.returns-in_default-clause-removed
returns-in_default-clause-removed c =
    absurd (c.in_default.ensures (entry_of c.args.id c.args.range) (rw (
      c.deref.ensures.value,
      ap (λ (v : ListValue). v.entries) c.self.view_is,
    ) c.requires.there) refl)
