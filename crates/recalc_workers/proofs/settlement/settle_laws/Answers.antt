use Rattle.mark_words.specs.Tokens.{subject_of}
use Rattle.recalc_workers.proofs.SettleLawLemmas.{known_cells_have_their_marks, known_cells_are_known_inputs, cells_stay_known, editor_stands, desks_stand}
use Rattle.recalc_workers.proofs.settlement.settle_laws.Goals as goal

pub returns-clause-known : goal.returns-clause-known
returns-clause-known g c = known_cells_have_their_marks (g.S.Subject.touches (subject_of c.args._marks.now))

pub returns-clause-inputs : goal.returns-clause-inputs
returns-clause-inputs g c = known_cells_are_known_inputs (g.S.Subject.touches (subject_of c.args._marks.now))

pub returns-clause-stay : goal.returns-clause-stay
returns-clause-stay g c = cells_stay_known c.args._marks.now c.args._seat.now (g.S.Subject.touches (subject_of c.args._marks.now))

pub returns-clause-editor : goal.returns-clause-editor
returns-clause-editor g c = editor_stands c.args._marks.now c.args._seat.now

pub returns-clause-desks : goal.returns-clause-desks
returns-clause-desks g c = desks_stand c.args._marks.now c.args._seat.now
