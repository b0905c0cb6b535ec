use Rattle.std.proofs.Common.{refl}
use Rattle.live_run.proofs.PlainLemmas.{clients_are_the_scripts, log_is_the_scripts, reports_are_of_their_looks, numbers_are_within, numbers_never_fall}
use Rattle.live_run.proofs.PlainLemmas.{values_are_of_one_thread, firm_reports_show_values, later_marks_touch, other_marks_are_last, shown_is_marked_later}
use Rattle.live_run.proofs.PlainLemmas.{closing_is_after_the_log}
use Rattle.live_run.proofs.laws.plain_laws.Goals as goal

pub returns : goal.returns
returns c = record {
  clients = clients_are_the_scripts;
  log = log_is_the_scripts;
  looks = reports_are_of_their_looks;
  within = numbers_are_within;
  rise = numbers_never_fall;
  values = values_are_of_one_thread;
  firm = firm_reports_show_values;
  later = later_marks_touch;
  last = other_marks_are_last;
  again = shown_is_marked_later;
  closing = closing_is_after_the_log;
  edits = λ a b c v w. refl;
  asked = λ a b c v w. refl;
  numbers = λ a b c v w. (refl, refl);
}
