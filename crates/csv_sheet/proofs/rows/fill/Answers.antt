use Rattle.std.proofs.Common.{◌≡◌, Err, ap, subst}
use Rattle.formula_syntax.specs.declared.edition.Edition.{Edition}
use Rattle.sheet_model.specs.Sheets.{SheetValue}
use Rattle.csv_sheet.specs.Results.{IsGivenByRecords}
use Rattle.csv_sheet.proofs.rows.fill.Goals as goal

pub returns-in-Err-clause-why : goal.returns-in-Err-clause-why
returns-in-Err-clause-why g c = λ other.
    let given = c.in-Err.ensures.why other in
    let edition : c.in_ok-sheet.sheet.edition ≡ c.args.edition = ap (λ (s : SheetValue). s.edition) c.in_ok-sheet.ensures in
    (given.0, given.1, subst (λ (e : Edition). IsGivenByRecords e given.0 (Err c.in-Err.refused)) edition given.2)
