use Rattle.sheet_model.proofs.SameSheets.{same_sheet}
use Rattle.sheet_model.proofs.SheetLemmas.{label_at, constant_at, formula_at}
use Rattle.sheet_model.proofs.cell_laws.sheet_laws.Goals as goal

pub returns : goal.returns
returns c = record { told = same_sheet; labels = label_at; constants = constant_at; formulas = formula_at }
