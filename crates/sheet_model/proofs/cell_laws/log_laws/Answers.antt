use Rattle.sheet_model.proofs.LogLemmas.{after-more, after-edition, after-sizes, after-labels, after-sheet}
use Rattle.sheet_model.proofs.cell_laws.log_laws.Goals as goal

pub returns-clause-more : goal.returns-clause-more
returns-clause-more c = after-more

pub returns-clause-edition : goal.returns-clause-edition
returns-clause-edition c = after-edition

pub returns-clause-sizes : goal.returns-clause-sizes
returns-clause-sizes c = after-sizes

pub returns-clause-labels : goal.returns-clause-labels
returns-clause-labels c = after-labels

pub returns-clause-sheets : goal.returns-clause-sheets
returns-clause-sheets c = after-sheet
