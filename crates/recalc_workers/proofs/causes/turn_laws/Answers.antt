use Rattle.mark_words.specs.Tokens.{subject_of}
use Rattle.recalc_workers.proofs.TurnLawLemmas.{done_is_one, others_finish_nothing, others_lose_nothing, holds_stay, nothing_was_clean}
use Rattle.recalc_workers.proofs.TurnLawLemmas.{later_is_past, stale_has_an_input, busy_found_another, idle_takes_none}
use Rattle.recalc_workers.proofs.TurnLawLemmas.{takes_one_and_offers_none, takes_one_and_offers_it}
use Rattle.recalc_workers.proofs.causes.turn_laws.Goals as goal

pub returns-clause-done : goal.returns-clause-done
returns-clause-done g c = done_is_one (g.S.SheetSubject.opening (subject_of c.args._marks.now)) c.args._seat.now

pub returns-clause-others : goal.returns-clause-others
returns-clause-others g c = others_finish_nothing (g.S.SheetSubject.opening (subject_of c.args._marks.now)) c.args._seat.now

pub returns-clause-lost : goal.returns-clause-lost
returns-clause-lost g c = others_lose_nothing (g.S.SheetSubject.opening (subject_of c.args._marks.now)) c.args._seat.now

pub returns-clause-holds : goal.returns-clause-holds
returns-clause-holds g c = holds_stay (g.S.SheetSubject.opening (subject_of c.args._marks.now)) c.args._seat.now

pub returns-clause-nothing : goal.returns-clause-nothing
returns-clause-nothing g c = nothing_was_clean (g.S.SheetSubject.opening (subject_of c.args._marks.now)) c.args._seat.now

pub returns-clause-later : goal.returns-clause-later
returns-clause-later g c = later_is_past (g.S.SheetSubject.opening (subject_of c.args._marks.now)) c.args._seat.now

pub returns-clause-stale : goal.returns-clause-stale
returns-clause-stale g c = stale_has_an_input (g.S.SheetSubject.opening (subject_of c.args._marks.now)) c.args._seat.now

pub returns-clause-busy : goal.returns-clause-busy
returns-clause-busy g c = busy_found_another (g.S.SheetSubject.opening (subject_of c.args._marks.now)) c.args._seat.now

pub returns-clause-idle : goal.returns-clause-idle
returns-clause-idle g c = idle_takes_none

pub returns-clause-one : goal.returns-clause-one
returns-clause-one g c = takes_one_and_offers_none

pub returns-clause-again : goal.returns-clause-again
returns-clause-again g c = takes_one_and_offers_it
