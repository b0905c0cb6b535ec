use Rattle.std.proofs.Common.{Some, None, refl, sym, subst, arith}
use Rattle.std.specs.HashMap.{get}
use Rattle.range_index.specs.Changes.{SetsKey}
use Rattle.range_index.specs.Grids.{count_at, or_none, same_home}
use Rattle.range_index.proofs.TableLemmas.{sets_count}
use Rattle.range_index.proofs.tables.Tables.lower_count.Goals as goal

pub returns-then-count-eq0 : goal.returns-then-count-eq0
returns-then-count-eq0 c = record {
  counts = subst (λ n. SetsKey (count_at c.args.self.now) (λ h. or_none (get same_home c.remove.new.self h)) c.args.home n) (sym c.if-count-eq0.true)
      (sets_count (λ h. get same_home c.args.self.now.counts h) (λ h. get same_home c.remove.new.self h) c.args.home None c.remove.ensures.updates.0);
  items = refl;
  slots = refl;
  tallest = refl;
  widest = refl;
  room = c.remove.ensures.spare;
}

pub returns-else-count-eq0 : goal.returns-else-count-eq0
returns-else-count-eq0 c = record {
  counts = sets_count (λ h. get same_home c.args.self.now.counts h) (λ h. get same_home c.write.new.map h) c.args.home
      (Some c.args.count) c.write.ensures.written.0;
  items = refl;
  slots = refl;
  tallest = refl;
  widest = refl;
  room = omega (arith, c.write.ensures.room);
}
