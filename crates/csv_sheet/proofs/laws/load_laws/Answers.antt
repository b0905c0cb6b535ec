use Rattle.csv_sheet.proofs.ResultLemmas.{one_result}
use Rattle.csv_sheet.proofs.SomeResult.{some_result}
use Rattle.csv_sheet.proofs.laws.load_laws.Goals as goal

pub returns-clause-one : goal.returns-clause-one
returns-clause-one c = one_result

pub returns-clause-some : goal.returns-clause-some
returns-clause-some c = some_result
