use Rattle.std.proofs.Common.{◌≡◌, ℕ, cond, Some, refl, ap, subst, arith, nat_eq}
use Rattle.range_index.specs.Entries.{Entry}
use Rattle.std.specs.HashMap.{get}
use Rattle.range_index.specs.Grids.{same_slot}
use Rattle.range_index.proofs.TableLemmas.{sets_id, sets_slot}
use Rattle.range_index.proofs.tables.Tables.put_at.Goals as goal

pub returns : goal.returns
returns c = record {
  items = sets_slot (λ s. get same_slot c.args.self.now.items s) (λ s. get same_slot c.write.new.map s) c.args.slot
      (Some c.args.item) c.write.ensures.written.0;
  slots = sets_id (λ i. get nat_eq c.args.self.now.slots i) (λ i. get nat_eq c.write-2.new.map i) c.args.item.id (Some c.args.slot)
      (subst (λ i. (q : ℕ) → get nat_eq c.write-2.new.map q ≡ cond (nat_eq i q) (Some c.args.slot)
      (get nat_eq c.args.self.now.slots q)) (ap (λ (e : Entry). e.id) c.item.view_is) c.write-2.ensures.written.0);
  counts = refl;
  tallest = refl;
  widest = refl;
  one_key = c.write.ensures.unique;
  items_room = omega (arith, c.write.ensures.room);
  slots_room = omega (arith, c.write-2.ensures.room);
}
