-- The steps by which an entry is taken out, together.
use Rattle.std.proofs.Common.{◌≡◌, ◌≢◌, ℕ, ◌-◌, Some, None, sym, ◌∙◌, ap}
use Rattle.range_index.specs.declared.tiles.Home.{Home}
use Rattle.range_index.specs.declared.tiles.Slot.{Slot}
use Rattle.range_index.specs.declared.tables.Tables.{Tables}
use Rattle.range_index.specs.Entries.{Entry}
use Rattle.range_index.specs.Grids.{HoldGrid, count_at, entry_at, slot_of, stands_at}
use Rattle.range_index.specs.Changes.{PutsAt, SetsKey, TakesLast, last_slot}
use Rattle.range_index.proofs.ChangeLemmas.{TakesOut}
use Rattle.range_index.proofs.GridLemmas.{places_of}

-- tables in which an id is noted no more, and nothing else has changed
pub record Forgets (old new : Tables) (id : ℕ) : Type 0 where
  pub at : (s : Slot) → entry_at new s ≡ entry_at old s
  pub count : (h : Home) → count_at new h ≡ count_at old h
  pub slots : SetsKey (stands_at old) (stands_at new) id None

same_id : (a b : Entry) → Some a ≡ Some b → a.id ≡ b.id
same_id a b is = let same : a ≡ b = cc in ap (λ (e : Entry). e.id) same

-- it stood at the last place of its home
pub took_last : (old mid new : Tables) (slot : Slot) (out moved : Entry) → HoldGrid old → entry_at old slot ≡ Some out
    → Forgets old mid out.id → TakesLast mid new slot.home → entry_at mid (last_slot mid slot.home) ≡ Some moved
    → moved.id ≡ out.id → TakesOut (entry_at old) (entry_at new) (count_at old) (count_at new) (stands_at old)
    (stands_at new) slot (last_slot mid slot.home) out moved
took_last old mid new slot out moved are there forgets takes at_last same = record {
  last_is = ap (λ n. slot_of slot.home (n - 1)) (forgets.count slot.home);
  there = there;
  at_last = sym (forgets.at last) ∙ at_last;
  gone = takes.items.here;
  in_place = λ apart. absurd (apart is_last);
  stayed = λ s not_last not_slot. takes.items.others s not_last ∙ forgets.at s;
  counts = record { here = takes.counts.here ∙ ap (λ n. n - 1) (forgets.count slot.home); others = λ h other. takes.counts.others h other ∙ forgets.count h };
  renoted = λ apart. absurd (apart is_last);
  others = λ i not_out not_moved. stands i ∙ forgets.slots.others i not_out;
}
  where
    last : Slot
    last = last_slot mid slot.home

    is_last : slot ≡ last
    is_last = places_of are slot last out moved there (sym (forgets.at last) ∙ at_last) (sym same)

    stands : (i : ℕ) → stands_at new i ≡ stands_at mid i
    stands i = let e = takes.slots in cc

-- the last one took its place
pub moved_last : (old mid less new : Tables) (slot : Slot) (out moved : Entry) → HoldGrid old
    → entry_at old slot ≡ Some out → Forgets old mid out.id → TakesLast mid less slot.home
    → entry_at mid (last_slot mid slot.home) ≡ Some moved → moved.id ≢ out.id → PutsAt less new slot moved
    → TakesOut (entry_at old) (entry_at new) (count_at old) (count_at new) (stands_at old) (stands_at new) slot
    (last_slot mid slot.home) out moved
moved_last old mid less new slot out moved are there forgets takes at_last other puts = record {
  last_is = ap (λ n. slot_of slot.home (n - 1)) (forgets.count slot.home);
  there = there;
  at_last = sym (forgets.at last) ∙ at_last;
  gone = puts.items.others last (λ same. not_last (sym same)) ∙ takes.items.here;
  in_place = λ apart. puts.items.here;
  stayed = λ s not_end not_slot. puts.items.others s not_slot ∙ (takes.items.others s not_end ∙ forgets.at s);
  counts = record {
    here = counts slot.home ∙ (takes.counts.here ∙ ap (λ n. n - 1) (forgets.count slot.home));
    others = λ h away. counts h ∙ (takes.counts.others h away ∙ forgets.count h);
  };
  renoted = λ apart. puts.slots.here;
  others = λ i not_out not_moved. puts.slots.others i not_moved ∙ (stands i ∙ forgets.slots.others i not_out);
}
  where
    last : Slot
    last = last_slot mid slot.home

    not_last : slot ≢ last
    not_last same = other (sym (same_id out moved (sym there ∙ ap (entry_at old) same ∙ (sym (forgets.at last) ∙ at_last))))

    counts : (h : Home) → count_at new h ≡ count_at less h
    counts h = let e = puts.counts in cc

    stands : (i : ℕ) → stands_at less i ≡ stands_at mid i
    stands i = let e = takes.slots in cc

-- something stands at its place still, before the last one takes it
pub still_there : (old mid less : Tables) (slot : Slot) (out moved : Entry) → entry_at old slot ≡ Some out
    → Forgets old mid out.id → TakesLast mid less slot.home → entry_at mid (last_slot mid slot.home) ≡ Some moved
    → moved.id ≢ out.id → entry_at less slot ≡ Some out
still_there old mid less slot out moved there forgets takes at_last other =
    takes.items.others slot (λ same. other (sym (same_id out moved (sym there ∙ (sym (forgets.at slot) ∙ (ap (entry_at mid) same ∙ at_last))))))
    ∙ (forgets.at slot ∙ there)
