use Rattle.std.proofs.Common.{◌≡◌, ◌-◌, None, ap, subst, arith}
use Rattle.std.specs.HashMap.{get, spare}
use Rattle.range_index.specs.Changes.{SetsKey}
use Rattle.range_index.specs.Grids.{count_at, entry_at, same_slot, slot_of}
use Rattle.range_index.proofs.TableLemmas.{sets_before, sets_slot}
use Rattle.range_index.proofs.tables.Tables.take_last.Goals as goal

pub returns-clause-taken : goal.returns-clause-taken
returns-clause-taken c =
    let old = c.args.self.now in
    let home = c.args.home in
    let counted : c.count-place.result - 1 ≡ count_at old home - 1 = ap (λ n. n - 1) c.count-place.ensures in
    record {
      items =
          subst (λ n. SetsKey (entry_at old) (λ s. get same_slot c.remove.new.self s) (slot_of home n) None) counted
          (sets_before (entry_at old) (λ s. get same_slot c.lower_count.new.self.items s)
          (λ s. get same_slot c.remove.new.self s) (slot_of home (c.count-place.result - 1)) None
          (λ s. (let e = c.lower_count.ensures.items in cc))
          (sets_slot (λ s. get same_slot c.lower_count.new.self.items s) (λ s. get same_slot c.remove.new.self s)
          (slot_of home (c.count-place.result - 1)) None c.remove.ensures.updates.0));
      counts = subst (λ n. SetsKey (count_at old) (count_at c.lower_count.new.self) home n) counted c.lower_count.ensures.counts;
      slots = c.lower_count.ensures.slots;
      tallest = c.lower_count.ensures.tallest;
      widest = c.lower_count.ensures.widest;
      one_key = c.remove.ensures.unique;
      items_room =
          (let e : spare c.lower_count.new.self.items ≡ spare old.items = (let same = c.lower_count.ensures.items in
          cc) in omega (arith, e, c.remove.ensures.spare));
      counts_room = c.lower_count.ensures.room;
    }
