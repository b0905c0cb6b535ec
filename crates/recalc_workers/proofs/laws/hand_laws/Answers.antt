use Rattle.recalc_workers.proofs.LawLemmas.{takes_in_order, finds_what_was_put, is_refused_at_room, counts_held, fits_by_numbers, is_refused_by_many}
use Rattle.recalc_workers.proofs.laws.hand_laws.Goals as goal

pub returns : goal.returns
returns c = record {
  order = takes_in_order;
  found = finds_what_was_put;
  room = is_refused_at_room;
  held = counts_held;
  fits = fits_by_numbers;
  many = is_refused_by_many;
}
