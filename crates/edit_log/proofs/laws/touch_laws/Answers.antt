use Rattle.edit_log.specs.Kept.{untouched, before_after}
use Rattle.edit_log.proofs.PlaceLemmas.{touches_inside, one_touched_list}
use Rattle.edit_log.proofs.TouchLemmas.{changed_touched, touched_by_one}
use Rattle.edit_log.proofs.laws.touch_laws.Goals as goal

pub returns : goal.returns
returns c = record {
  untouched = untouched;
  both = before_after;
  changed = changed_touched;
  each = touched_by_one;
  inside = touches_inside;
  listed = one_touched_list;
}
