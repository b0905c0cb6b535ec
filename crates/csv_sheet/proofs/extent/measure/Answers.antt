use Rattle.std.proofs.Common.{rules}
use Rattle.csv_sheet.specs.Lines.{IsCountOf, text_rows}
use Rattle.csv_sheet.proofs.LineLemmas.{plain_rows}
use Rattle.csv_sheet.proofs.extent.measure.Goals as goal

pub returns-in-Some : goal.returns-in-Some
returns-in-Some c =
    let text = c.args.text.now in
    let is : IsCountOf text c.in-Some.lines = search rules in (
      text_rows text,
      plain_rows text is.plain,
      record { count = is.counted.count; cols = is.counted.cols; text = is.counted.text; short = is.counted.short c.if-lines.true },
    )
