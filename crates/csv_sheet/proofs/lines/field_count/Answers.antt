use Rattle.std.proofs.Common.{arith, []}
use Rattle.csv_sheet.proofs.LineLemmas.{many_fields}
use Rattle.csv_sheet.proofs.lines.field_count.Goals as goal

pub returns : goal.returns
returns c =
    let many = many_fields [] c.args.line.now in
    let commas = c.comma_count.ensures in
    omega (arith, many, commas)
