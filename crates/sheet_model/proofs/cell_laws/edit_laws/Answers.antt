use Rattle.sheet_model.proofs.EditLemmas.{edit-here, edit-others, edit-order, edit-undone}
use Rattle.sheet_model.proofs.ChangeLemmas.{change-here, change-others}
use Rattle.sheet_model.proofs.cell_laws.edit_laws.Goals as goal

pub returns-clause-change : goal.returns-clause-change
returns-clause-change c = change-here

pub returns-clause-beside : goal.returns-clause-beside
returns-clause-beside c = change-others

pub returns-clause-here : goal.returns-clause-here
returns-clause-here c = edit-here

pub returns-clause-others : goal.returns-clause-others
returns-clause-others c = edit-others

pub returns-clause-order : goal.returns-clause-order
returns-clause-order c = edit-order

pub returns-clause-undone : goal.returns-clause-undone
returns-clause-undone c = edit-undone
