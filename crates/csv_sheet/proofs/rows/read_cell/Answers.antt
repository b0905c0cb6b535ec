use Rattle.std.proofs.Common.{refl, ap, Err}
use Rattle.csv_sheet.proofs.rows.read_cell.Goals as goal

pub returns-in-Err-TooDeep-clause-why : goal.returns-in-Err-TooDeep-clause-why
returns-in-Err-TooDeep-clause-why c =
    let deep = (c.in-Err-TooDeep.ensures.too_deep (λ e. cc)).0 (ap (λ k. Err k) c.in-Err-TooDeep.field-0-is) in
    (refl, deep)
