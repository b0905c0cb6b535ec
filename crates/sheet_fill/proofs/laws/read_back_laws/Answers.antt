use Rattle.sheet_fill.proofs.ReadBackLemmas.{contents_back, formulas_back, others_back}
use Rattle.sheet_fill.proofs.laws.read_back_laws.Goals as goal

pub returns : goal.returns
returns c = record { contents = contents_back; formulas = formulas_back; lacking = others_back }
