use Rattle.sheet_undo.proofs.UndoLemmas.{last_undone, one_undoes, restores, some_overtaker, undone_twice}
use Rattle.sheet_undo.proofs.laws.undo_laws.Goals as goal

pub returns-clause-one : goal.returns-clause-one
returns-clause-one c = one_undoes

pub returns-clause-restored : goal.returns-clause-restored
returns-clause-restored c = λ opening log number edit is for whole undoes. restores opening log is for whole number edit undoes

pub returns-clause-overtaken : goal.returns-clause-overtaken
returns-clause-overtaken c = some_overtaker

pub returns-clause-twice : goal.returns-clause-twice
returns-clause-twice c = undone_twice

pub returns-clause-last : goal.returns-clause-last
returns-clause-last c = last_undone
