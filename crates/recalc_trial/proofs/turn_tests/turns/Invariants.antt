use Rattle.std.proofs.Common.{◌≡◌}
use Rattle.mark_words.specs.Tokens.{IsSeatOf}
use Rattle.recalc_workers.specs.Hands.{IsHandOf}
use Rattle.recalc_workers.specs.Offices.{words_for}
use Rattle.recalc_trial.proofs.turn_tests.turns.Given as goal

abbrev pub invariant-loop : goal.invariant-loop
invariant-loop g l = IsSeatOf l.marks l.desk.seat × (words_for l.office.marks.now ≡ words_for l.marks) × IsHandOf l.jobs l.desk.hand
